-- Anchors that fit.
use Rattle.std.proofs.Common.{◌≡◌, ℕ, ◌≤◌, true, nat_le, ◌&&◌, List, ◌++◌, sym, ◌∙◌, arith}
use Rattle.std.proofs.lemmas.Bool.{and_parts, and_from, leb-true, le-leb}
use Rattle.std.proofs.lemmas.List.Folds.{list_all-append}
use Rattle.bddl_model.specs.declared.game.Atom.{Atom}
use Rattle.bddl_model.specs.declared.game.Rect.{Rect}
use Rattle.bddl_model.specs.Game.{greatest_side}
use Rattle.bddl_model.specs.Fitting.{on_side, on_board, fits}
use Rattle.bddl_model.specs.Limits.{IsSide}
use Rattle.bddl_model.specs.Rectangle.{IsRectOf}

pub on_side_low : (side n : ℕ) → on_side side n ≡ true → 1 ≤ n
on_side_low side n h = leb-true 1 n (and_parts _ _ h).0

pub on_side_high : (side n : ℕ) → on_side side n ≡ true → n ≤ side
on_side_high side n h = leb-true n side (and_parts _ _ h).1

pub anchor_on_board : (width height x y : ℕ) (atoms : List Atom) → fits width height atoms x y ≡ true → (on_side width x ≡ true) × (on_side height y ≡ true)
anchor_on_board width height x y atoms f =
    let column = and_parts (on_side width x) _ f in
    (column.0, (and_parts (on_side height y) _ column.1).0)

pub anchor_within : (width height x y : ℕ) (atoms : List Atom) → IsSide width → IsSide height → fits width height atoms x y ≡ true → (x ≤ greatest_side) × (y ≤ greatest_side)
anchor_within width height x y atoms wide high f =
    let anchor = anchor_on_board width height x y atoms f in
    let column = on_side_high width x anchor.0 in
    let row = on_side_high height y anchor.1 in
    (omega arith, omega arith)

pub fits_second : (width height x y : ℕ) (first second : List Atom) → fits width height (first ++ second) x y ≡ true → fits width height second x y ≡ true
fits_second width height x y first second f =
    let anchor = anchor_on_board width height x y (first ++ second) f in
    let cells = (and_parts (on_side height y) _ (and_parts (on_side width x) _ f).1).1 in
    let of_second = (and_parts _ _ (sym (list_all-append (on_board width height x y) first second) ∙ cells)).1 in
    and_from _ _ anchor.0 (and_from _ _ anchor.1 of_second)

-- ---- those of a rectangle

pub record InRect (r : Rect) (x y : ℕ) : Type 0 where
  pub x_low : r.x_low ≤ x
  pub x_high : x ≤ r.x_high
  pub y_low : r.y_low ≤ y
  pub y_high : y ≤ r.y_high

pub in_rect_fits : (width height : ℕ) (atoms : List Atom) (r : Rect) (x y : ℕ) → IsRectOf width height atoms r → InRect r x y → fits width height atoms x y ≡ true
in_rect_fits width height atoms r x y rect here =
    sym (rect.anchors x y)
    ∙ and_from _ _ (and_from _ _ (le-leb r.x_low x here.x_low) (le-leb x r.x_high here.x_high)) (and_from _ _ (le-leb r.y_low y here.y_low) (le-leb y r.y_high here.y_high))

pub fits_in_rect : (width height : ℕ) (atoms : List Atom) (r : Rect) (x y : ℕ) → IsRectOf width height atoms r → fits width height atoms x y ≡ true → InRect r x y
fits_in_rect width height atoms r x y rect fit =
    let inside = and_parts (nat_le r.x_low x && nat_le x r.x_high) _ (rect.anchors x y ∙ fit) in
    let columns = and_parts (nat_le r.x_low x) _ inside.0 in
    let rows = and_parts (nat_le r.y_low y) _ inside.1 in
    record {
      x_low = leb-true r.x_low x columns.0;
      x_high = leb-true x r.x_high columns.1;
      y_low = leb-true r.y_low y rows.0;
      y_high = leb-true y r.y_high rows.1;
    }

pub rect_within : (width height : ℕ) (atoms : List Atom) (r : Rect) → IsSide width → IsSide height → IsRectOf width height atoms r → (r.x_high ≤ greatest_side) × (r.y_high ≤ greatest_side)
rect_within width height atoms r wide high rect =
    let columns = rect.columns in
    let rows = rect.rows in
    let corner = in_rect_fits width height atoms r r.x_high r.y_high rect (record { x_low = columns; x_high = omega arith; y_low = rows; y_high = omega arith }) in
    anchor_within width height r.x_high r.y_high atoms wide high corner
