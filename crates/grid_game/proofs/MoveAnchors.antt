-- The rectangle of the anchors that fit lies on the board.
use Rattle.std.proofs.Common.{◌≡◌, ℕ, ◌≤◌, true, List, sym, ◌∙◌, arith}
use Rattle.std.specs.Prelude.{◌&&◌}
use Rattle.std.specs.List.{list_all}
use Rattle.std.proofs.lemmas.Bool.{and_parts, and_from, le-leb}
use Rattle.std.proofs.lemmas.List.Folds.{list_all-append}
use Rattle.bddl_model.specs.declared.game.Atom.{Atom}
use Rattle.bddl_model.specs.declared.game.Rect.{Rect}
use Rattle.bddl_model.specs.Game.{Action, action_atoms, test_atoms}
use Rattle.bddl_model.specs.Fitting.{on_side, on_board}
use Rattle.bddl_model.specs.Rectangle.{in_rect, IsRectOf}
use Rattle.bddl_model.proofs.Anchors.{InRect, in_rect_fits, anchor_on_board, on_side_low, on_side_high}

pub anchor_inside : (r : Rect) (x y : ℕ) → r.x_low ≤ x → x ≤ r.x_high → r.y_low ≤ y → y ≤ r.y_high → in_rect r x y ≡ true
anchor_inside r x y left right top bottom = and_from _ _ (and_from _ _ (le-leb _ _ left) (le-leb _ _ right)) (and_from _ _ (le-leb _ _ top) (le-leb _ _ bottom))

pub record OnBoard (width height : ℕ) (r : Rect) : Type 0 where
  pub x_low : 1 ≤ r.x_low
  pub x_high : r.x_high ≤ width
  pub y_low : 1 ≤ r.y_low
  pub y_high : r.y_high ≤ height

pub rect_on_board : (width height : ℕ) (atoms : List Atom) (r : Rect) → IsRectOf width height atoms r → OnBoard width height r
rect_on_board width height atoms r is =
    let columns = is.columns in
    let rows = is.rows in
    let low = anchor_on_board width height r.x_low r.y_low atoms (in_rect_fits width height atoms r r.x_low r.y_low is (record { x_low = omega arith; x_high = columns; y_low = omega arith; y_high = rows })) in
    let high = anchor_on_board width height r.x_high r.y_high atoms (in_rect_fits width height atoms r r.x_high r.y_high is (record { x_low = columns; x_high = omega arith; y_low = rows; y_high = omega arith })) in
    record {
      x_low = on_side_low width r.x_low low.0;
      x_high = on_side_high width r.x_high high.0;
      y_low = on_side_low height r.y_low low.1;
      y_high = on_side_high height r.y_high high.1;
    }

-- from an anchor in the rectangle of an action the cells of its preconditions are on the board
pub cells_inside : (width height : ℕ) (a : Action) (r : Rect) (x y : ℕ) → IsRectOf width height (action_atoms a) r → InRect r x y → list_all (on_board width height x y) (test_atoms a.before) ≡ true
cells_inside width height a r x y is here =
    let fit = and_parts (on_side width x) (on_side height y && list_all (on_board width height x y) (action_atoms a)) (in_rect_fits width height (action_atoms a) r x y is here) in
    let cells = and_parts (on_side height y) (list_all (on_board width height x y) (action_atoms a)) fit.1 in
    (and_parts _ _ (sym (list_all-append (on_board width height x y) (test_atoms a.before) a.effects) ∙ cells.1)).0
