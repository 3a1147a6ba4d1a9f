-- A rectangle of anchors, which may be empty, narrowed to those from which some atoms stay on the board.
use Rattle.std.specs.Prelude.{ℕ, ◌≡◌, ◌≤◌, max, min, List}
use Rattle.bddl_model.specs.declared.game.Atom.{Atom}
use Rattle.bddl_model.specs.declared.game.Rect.{Rect}
use Rattle.bddl_model.specs.Rectangle.{least_anchor, greatest_anchor, columns_of, rows_of}

-- it leads past no end of the board
pub record IsInside (width height : ℕ) (r : Rect) : Type 0 where
  pub x_low : 1 ≤ r.x_low
  pub x_high : r.x_high ≤ width
  pub y_low : 1 ≤ r.y_low
  pub y_high : r.y_high ≤ height

-- its ends, and those that the atoms allow
pub record IsNarrowed (width height : ℕ) (r : Rect) (atoms : List Atom) (left : Rect) : Type 0 where
  pub x_low : left.x_low ≡ max r.x_low (least_anchor (columns_of atoms))
  pub x_high : left.x_high ≡ min r.x_high (greatest_anchor width (columns_of atoms))
  pub y_low : left.y_low ≡ max r.y_low (least_anchor (rows_of atoms))
  pub y_high : left.y_high ≡ min r.y_high (greatest_anchor height (rows_of atoms))
