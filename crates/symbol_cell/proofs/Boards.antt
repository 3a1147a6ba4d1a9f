-- What the place shows after a legal move: what the move does to it alone.
use Rattle.std.proofs.Common.{◌≡◌, ◌≢◌, ℕ, suc, ◌≤◌, ◌<◌, ◌+◌, ◌-◌, ◌*◌, Bool, true, false, ◌&&◌, List, [], ◌∷◌, ◌++◌, length, if◌then◌else◌, Option, None, Some, ◌⊎◌, inl, inr, ⊎_elim, refl, sym, ap, ap₂, ◌∙◌, arith, eqb-true, eq-eqb, ne_eqb, get_or-set_other, get_or-set_same, mul-le-mul_right}
use Rattle.std.specs.Prelude.{◌==◌, slice_get}
use Rattle.std.specs.List.{list_all}
use Rattle.std.proofs.lemmas.Bool.{cases_Bool, cases_order, and_parts, and_cases, and_left, and_right, leb-true, eqb-false}
use Rattle.std.proofs.lemmas.List.{length-set}
use Rattle.bddl_model.specs.declared.game.Mark.{Mark}
use Rattle.bddl_model.specs.declared.game.Mark.TheVariants as marks
use Rattle.bddl_model.specs.declared.game.Side.{Side}
use Rattle.bddl_model.specs.declared.game.Atom.{Atom}
use Rattle.bddl_model.specs.declared.game.Move.{Move}
use Rattle.bddl_model.specs.Board.{Board, index, mark_at, with_mark}
use Rattle.bddl_model.specs.Conditions.{Cell}
use Rattle.bddl_model.specs.Encoding.{shown}
use Rattle.bddl_model.specs.Fitting.{led, on_side, on_board, fits}
use Rattle.bddl_model.specs.Game.{Game, Action, action_atoms, actions, test_atoms}
use Rattle.bddl_model.specs.Moves.{legal, legal_with, written, after, effects_of}
use Rattle.bddl_model.specs.OneCell.{touches, rewritten, stepped}
use Rattle.bddl_model.proofs.Anchors.{fits_second, on_side_low, on_side_high}

-- ---- cells by their numbers

row_below : (a b w : ℕ) → a < b → a * w + w ≤ b * w
row_below a b w lt = omega (arith, mul-le-mul_right {m = suc a} {n = b} w lt, one a w)
  where
    one : (a w : ℕ) → suc a * w ≡ a * w + w
    one a w = grind arith

one_cell : (a b c d w : ℕ) → c < w → d < w → a * w + c ≡ b * w + d → (a ≡ b) × (c ≡ d)
one_cell a b c d w lc ld e = go (cases_order a b)
  where
    go : (a ≡ b) ⊎ ((a < b) ⊎ (b < a)) → (a ≡ b) × (c ≡ d)
    go (inl h) = (h, let q : a * w ≡ b * w = ap (λ k. k * w) h in omega (arith, e, q))
    go (inr (inl h)) = let q = row_below a b w h in absurd (omega (arith, q))
    go (inr (inr h)) = let q = row_below b a w h in absurd (omega (arith, q))

-- a cell of the board
record OnSides (g : Game) (x y : ℕ) : Type 0 where
  pub column : (1 ≤ x) × (x ≤ g.width)
  pub row : (1 ≤ y) × (y ≤ g.height)

on_sides : (g : Game) (x y : ℕ) → on_side g.width x ≡ true → on_side g.height y ≡ true → OnSides g x y
on_sides g x y w h = record { column = (on_side_low g.width x w, on_side_high g.width x w); row = (on_side_low g.height y h, on_side_high g.height y h) }

index_within : (g : Game) (x y : ℕ) → OnSides g x y → index g.width x y < g.height * g.width
index_within g x y on = let below = row_below (y - 1) g.height g.width (omega (arith, on.row)) in omega (arith, below, on.column)

other_index : (g : Game) (x y v w : ℕ) → OnSides g x y → OnSides g v w → ((x ≡ v) × (y ≡ w) → ⊥) → index g.width v w ≢ index g.width x y
other_index g x y v w on there apart same =
    let both = one_cell (w - 1) (y - 1) (v - 1) (x - 1) g.width (omega (arith, there.column)) (omega (arith, on.column)) same in
    apart (omega (arith, both.1, on.column, there.column), omega (arith, both.0, on.row, there.row))

-- ---- one mark is written

same_cell_or : (x y v w : ℕ) → ((x == v) && (y == w)) ≡ false → (x ≡ v) × (y ≡ w) → ⊥
same_cell_or x y v w h same = ⊎_elim (λ f. eqb-false x v f same.0) (λ f. eqb-false y w f same.1) (and_cases (x == v) (y == w) h)

shown_on : (g : Game) (board : Board) (place : Cell) → on_side g.width place.x ≡ true → on_side g.height place.y ≡ true → shown g board place ≡ mark_at g.width board place.x place.y
shown_on g board place w h = rw (w, h) refl

shown_off : (g : Game) (one other : Board) (place : Cell) → (on_side g.width place.x && on_side g.height place.y) ≡ false → shown g one place ≡ shown g other place
shown_off g one other place off = rw off refl

pub shown_set : (g : Game) (board : Board) (x y : ℕ) (mark : Mark) (place : Cell) → length board ≡ g.height * g.width → on_side g.width x ≡ true → on_side g.height y ≡ true
    → shown g (with_mark g.width board x y mark) place ≡ (if (x == place.x) && (y == place.y) then mark else shown g board place)
shown_set g board x y mark place size column row = elim (cases_Bool ((x == place.x) && (y == place.y))) [
  | inl here ↦
      let same = and_parts (x == place.x) (y == place.y) here in
      let ex = eqb-true x place.x same.0 in
      let ey = eqb-true y place.y same.1 in
      let on = on_sides g x y column row in
      shown_on g (with_mark g.width board x y mark) place (ap (on_side g.width) (sym ex) ∙ column) (ap (on_side g.height) (sym ey) ∙ row)
      ∙ ap₂ (λ i j. mark_at g.width (with_mark g.width board x y mark) i j) (sym ex) (sym ey)
      ∙ get_or-set_same board (index g.width x y) mark marks.Free (omega (arith, index_within g x y on, size))
      ∙ sym (ap (λ b. if b then mark else shown g board place) here)
  | inr elsewhere ↦
      kept (cases_Bool (on_side g.width place.x)) (cases_Bool (on_side g.height place.y)) (same_cell_or x y place.x place.y elsewhere)
      ∙ sym (ap (λ b. if b then mark else shown g board place) elsewhere)
]
  where
    kept : (on_side g.width place.x ≡ true) ⊎ (on_side g.width place.x ≡ false) → (on_side g.height place.y ≡ true) ⊎ (on_side g.height place.y ≡ false) → ((x ≡ place.x) × (y ≡ place.y) → ⊥) → shown g (with_mark g.width board x y mark) place ≡ shown g board place
    kept (inr off) h apart = shown_off g (with_mark g.width board x y mark) board place (and_left _ _ off)
    kept (inl w) (inr off) apart = shown_off g (with_mark g.width board x y mark) board place (and_right _ _ off)
    kept (inl w) (inl h) apart =
        shown_on g (with_mark g.width board x y mark) place w h
        ∙ get_or-set_other board (index g.width x y) (index g.width place.x place.y) mark marks.Free (other_index g x y place.x place.y (on_sides g x y column row) (on_sides g place.x place.y w h) apart)
        ∙ sym (shown_on g board place w h)

-- ---- effects, and moves

shown_written : (g : Game) (board : Board) (effects : List Atom) (anchor place : Cell) → length board ≡ g.height * g.width → list_all (on_board g.width g.height anchor.x anchor.y) effects ≡ true
    → shown g (written g anchor.x anchor.y effects board) place ≡ rewritten effects anchor place (shown g board place)
shown_written g board [] anchor place size on = refl
shown_written g board (e ∷ effects) anchor place size on =
    let parts = and_parts (on_board g.width g.height anchor.x anchor.y e) _ on in
    let cell = and_parts (on_side g.width (led e.x anchor.x)) _ parts.0 in
    let marked = with_mark g.width board (led e.x anchor.x) (led e.y anchor.y) e.mark in
    shown_written g marked effects anchor place (length-set board _ e.mark ∙ size) parts.1
    ∙ ap (rewritten effects anchor place) (shown_set g board (led e.x anchor.x) (led e.y anchor.y) e.mark place size cell.0 cell.1)

pub shown_after : (g : Game) (board : Board) (side : Side) (m : Move) (place : Cell) → length board ≡ g.height * g.width → legal g board side m ≡ true
    → shown g (after g board side m) place ≡ stepped g side m place (shown g board place)
shown_after g board side m place size = of (slice_get (actions g side) m.action)
  where
    of : (found : Option Action) → legal_with g board found m.x m.y ≡ true
        → shown g (written g m.x m.y (effects_of found) board) place ≡ rewritten (effects_of found) (record { x = m.x; y = m.y }) place (shown g board place)
    of None may = refl
    of (Some a) may =
        let fit = (and_parts (fits g.width g.height (action_atoms a) m.x m.y) _ may).0 in
        let effects = fits_second g.width g.height m.x m.y (test_atoms a.before) a.effects fit in
        let cells = and_parts (on_side g.width m.x) _ effects in
        shown_written g board a.effects (record { x = m.x; y = m.y }) place size (and_parts (on_side g.height m.y) _ cells.1).1
