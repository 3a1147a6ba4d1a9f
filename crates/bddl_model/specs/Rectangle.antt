-- The anchors that fit are a rectangle: from the greatest of the least anchors that the terms allow to the least of the greatest.
use Rattle.std.specs.Prelude.{ℕ, ◌≡◌, ◌+◌, ◌-◌, ◌≤◌, pos, negsuc, Bool, ◌&&◌, nat_le, min, max, if◌then◌else◌, List, [], ◌∷◌, map, Option, None, Some}
use Rattle.bddl_model.specs.declared.game.Term.{Term}
use Rattle.bddl_model.specs.declared.game.Term.TheVariants.{Rel, Abs}
use Rattle.bddl_model.specs.declared.game.Atom.{Atom}
use Rattle.bddl_model.specs.declared.game.Rect.{Rect}
use Rattle.bddl_model.specs.Fitting.{on_side, fits}

abbrev pub in_rect : Rect → ℕ → ℕ → Bool
in_rect r x y = (nat_le r.x_low x && nat_le x r.x_high) && (nat_le r.y_low y && nat_le y r.y_high)

-- it is not empty, and holds the anchors that fit
pub record IsRectOf (width height : ℕ) (atoms : List Atom) (r : Rect) : Type 0 where
  pub columns : r.x_low ≤ r.x_high
  pub rows : r.y_low ≤ r.y_high
  pub anchors : (x y : ℕ) → in_rect r x y ≡ fits width height atoms x y

-- ---- computed from the terms of one coordinate

-- the least anchor from which the term doesn't lead before the board
abbrev pub least_for : Term → ℕ
least_for (Rel (pos k)) = 1
least_for (Rel (negsuc k)) = k + 2
least_for (Abs m) = 1

-- the greatest anchor from which it doesn't lead past a side of this length; none where it leads to no number of the side
abbrev pub greatest_for : ℕ → Term → ℕ
greatest_for side (Rel (pos k)) = side - k
greatest_for side (Rel (negsuc k)) = side
greatest_for side (Abs m) = if on_side side m then side else 0

abbrev pub least_anchor : List Term → ℕ
least_anchor [] = 1
least_anchor (t ∷ ts) = max (least_for t) (least_anchor ts)

abbrev pub greatest_anchor : ℕ → List Term → ℕ
greatest_anchor side [] = side
greatest_anchor side (t ∷ ts) = min (greatest_for side t) (greatest_anchor side ts)

-- a rectangle that is not empty
abbrev pub rect_between : ℕ → ℕ → ℕ → ℕ → Option Rect
rect_between x_low x_high y_low y_high =
    if nat_le x_low x_high && nat_le y_low y_high then Some (record { x_low = x_low; x_high = x_high; y_low = y_low; y_high = y_high }) else None

abbrev pub columns_of : List Atom → List Term
columns_of atoms = map (λ a. a.x) atoms

abbrev pub rows_of : List Atom → List Term
rows_of atoms = map (λ a. a.y) atoms

unfoldable pub rect_of : ℕ → ℕ → List Atom → Option Rect
rect_of width height atoms =
    rect_between (least_anchor (columns_of atoms)) (greatest_anchor width (columns_of atoms)) (least_anchor (rows_of atoms)) (greatest_anchor height (rows_of atoms))
