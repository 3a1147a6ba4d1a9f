-- The board that shows which cells were named.
use Rattle.std.proofs.Common.{◌≡◌, ℕ, ◌+◌, ◌*◌, ◌<◌, Bool, true, false, ◌||◌, inl, inr, List, [], ◌∷◌, ◌++◌, length, take, get_or, None, refl, ap₂, ◌∙◌}
use Rattle.std.specs.List.{list_any}
use Rattle.std.proofs.lemmas.Bool.{and_parts, eqb-true, cases_Bool}
use Rattle.std.proofs.lemmas.Grind.{get_or-set_at}
use Rattle.std.proofs.lemmas.List.{take_more, get_or-set_other}
use Rattle.std.proofs.lemmas.List.Folds.{list_any-append}
use Rattle.bddl_model.specs.declared.game.Mark.TheVariants.{Free, Black}
use Rattle.bddl_model.specs.declared.texts.InitAtom.{InitAtom}
use Rattle.bddl_model.specs.Board.{SizedBoard, index, with_mark}
use Rattle.bddl_model.specs.Check.{same_cell, cell_fault}
use Rattle.bddl_model.specs.Fitting.{on_side, cell_on_board}
use Rattle.grid_game.proofs.Cells.{index_below}
use Rattle.offset_check.specs.Named.{Shows}
use Rattle.offset_check.proofs.CellCounts.{places_apart}
use Rattle.offset_check.proofs.CellFaults.{passed}

place_below : (width height : ℕ) (a : InitAtom) → cell_on_board width height a ≡ true → index width a.x a.y < height * width
place_below width height a on =
    let sides = and_parts (on_side width a.x) (on_side height a.y) on in
    index_below width height a.x a.y sides.0 sides.1

shows_one_more : (b : SizedBoard) (cells : List InitAtom) (c : InitAtom) → length b.marks ≡ b.height * b.width → cell_on_board b.width b.height c ≡ true → Shows b cells
    → Shows (record b { marks = with_mark b.width b.marks c.x c.y Black }) (cells ++ c ∷ [])
shows_one_more b cells c size on shows = record {
  named = λ a on_a. elim (cases_Bool (same_cell a c)) [
    | inl same ↦ rw (list_any-append (same_cell a) cells (c ∷ []), same, get_or-set_at b.marks (place c) (place a) Black Free (same_place a same) (rw size (place_below b.width b.height c on))) (or_yes (list_any (same_cell a) cells))
    | inr apart ↦ rw (list_any-append (same_cell a) cells (c ∷ []), apart, get_or-set_other b.marks (place c) (place a) Black Free (places_apart b.width b.height a c on_a on apart)) (or_no (list_any (same_cell a) cells) ∙ shows.named a on_a)
  ];
}
  where
    place : InitAtom → ℕ
    place a = index b.width a.x a.y

    same_place : (a : InitAtom) → same_cell a c ≡ true → place a ≡ place c
    same_place a same =
        let parts = and_parts _ _ same in
        ap₂ (index b.width) (eqb-true a.x c.x parts.0) (eqb-true a.y c.y parts.1)

    or_yes : (s : Bool) → (s || (true || false)) ≡ true
    or_yes true = refl
    or_yes false = refl

    or_no : (s : Bool) → (s || (false || false)) ≡ s
    or_no true = refl
    or_no false = refl

-- a cell that has passed is marked
pub shows_more : (b : SizedBoard) (cells : List InitAtom) (i : ℕ) (d : InitAtom) → i < length cells → length b.marks ≡ b.height * b.width → cell_fault b.width b.height (take i cells) (get_or cells i d) ≡ None → Shows b (take i cells)
    → Shows (record b { marks = with_mark b.width b.marks (get_or cells i d).x (get_or cells i d).y Black }) (take (i + 1) cells)
shows_more b cells i d within size fine shows =
    rw (take_more cells i d within) (shows_one_more b (take i cells) (get_or cells i d) size (passed b.width b.height (take i cells) (get_or cells i d) fine).0 shows)
