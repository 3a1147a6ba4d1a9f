-- Cells that have passed, and one more.
use Rattle.std.proofs.Common.{◌≡◌, ℕ, ◌+◌, ◌<◌, Bool, true, false, ◌&&◌, ◌||◌, not, nat_eq, None, List, [], ◌∷◌, ◌++◌, length, take, drop, get_or, refl, sym, ap, ap₂, ◌∙◌, arith}
use Rattle.std.specs.List.{list_any, list_all}
use Rattle.std.proofs.lemmas.Bool.Decides.{nat_tests}
use Rattle.std.proofs.lemmas.List.{take_more, at_drop_more}
use Rattle.std.proofs.lemmas.List.Folds.{list_any-append, list_all-append}
use Rattle.bddl_model.specs.declared.check.CheckFault.{CheckFault}
use Rattle.bddl_model.specs.declared.texts.InitAtom.{InitAtom}
use Rattle.bddl_model.specs.Check.{first_of, fault_if, same_cell, cell_fault, each_cell}
use Rattle.bddl_model.specs.Fitting.{on_side, cell_on_board}
use Rattle.offset_check.proofs.CellCounts.{cells_apart}

-- a cell without a fault is on the board, and none before it is the same
pub passed : (width height : ℕ) (earlier : List InitAtom) (a : InitAtom) → cell_fault width height earlier a ≡ None → (cell_on_board width height a ≡ true) × (list_any (same_cell a) earlier ≡ false)
passed width height earlier a h = parts (on_side width a.x) (on_side height a.y) (list_any (same_cell a) earlier) _ _ _ h
  where
    parts : (column row twice : Bool) (f g k : CheckFault) → first_of (fault_if (not column) f ∷ fault_if (not row) g ∷ fault_if twice k ∷ []) ≡ None → ((column && row) ≡ true) × (twice ≡ false)
    parts true true false f g k h = (refl, refl)
    parts true true true f g k h = absurd cc
    parts true false twice f g k h = absurd cc
    parts false row twice f g k h = absurd cc

pub on_board_more : (width height : ℕ) (cells : List InitAtom) (i : ℕ) (d : InitAtom) → i < length cells → cell_fault width height (take i cells) (get_or cells i d) ≡ None → list_all (cell_on_board width height) (take i cells) ≡ true → list_all (cell_on_board width height) (take (i + 1) cells) ≡ true
on_board_more width height cells i d within fine before =
    let on = (passed width height (take i cells) (get_or cells i d) fine).0 in
    rw (take_more cells i d within, list_all-append (cell_on_board width height) (take i cells) (get_or cells i d ∷ []), before, on) refl

-- the last of some cells is none of the others
apart_append : (cells : List InitAtom) (a : InitAtom) → cells_apart (cells ++ a ∷ []) ≡ (cells_apart cells && not (list_any (same_cell a) cells))
apart_append [] a = refl
apart_append (b ∷ cells) a = rw (list_any-append (same_cell b) cells (a ∷ []), apart_append cells a, swapped) (parts (list_any (same_cell b) cells) (same_cell a b) (list_any (same_cell a) cells) (cells_apart cells))
  where
    even : (m n : ℕ) → nat_eq m n ≡ nat_eq n m
    even m n = grind (arith, nat_tests)

    swapped : same_cell b a ≡ same_cell a b
    swapped = ap₂ (λ s t. s && t) (even b.x a.x) (even b.y a.y)

    parts : (before same behind apart : Bool) → (not (before || (same || false)) && (apart && not behind)) ≡ ((not before && apart) && not (same || behind))
    parts true same behind apart = refl
    parts false true behind true = refl
    parts false true behind false = refl
    parts false false behind apart = refl

pub apart_more : (width height : ℕ) (cells : List InitAtom) (i : ℕ) (d : InitAtom) → i < length cells → cell_fault width height (take i cells) (get_or cells i d) ≡ None → cells_apart (take i cells) ≡ true → cells_apart (take (i + 1) cells) ≡ true
apart_more width height cells i d within fine before =
    let others = (passed width height (take i cells) (get_or cells i d) fine).1 in
    rw (take_more cells i d within, apart_append (take i cells) (get_or cells i d), before, others) refl

pub fault_more : (width height : ℕ) (cells : List InitAtom) (i : ℕ) (d : InitAtom) → i < length cells → cell_fault width height (take i cells) (get_or cells i d) ≡ None → first_of (each_cell width height (take (i + 1) cells) (drop (i + 1) cells)) ≡ first_of (each_cell width height (take i cells) (drop i cells))
fault_more width height cells i d within fine =
    let next = at_drop_more (λ left. first_of (each_cell width height (take i cells) left)) cells i d within in
    rw (take_more cells i d within)
    (sym (next ∙ ap (λ o. first_of (o ∷ each_cell width height (take i cells ++ get_or cells i d ∷ []) (drop (i + 1) cells))) fine))
