-- Whether some anchor fits, by the rectangle of those that do.
use Rattle.std.proofs.Common.{◌≡◌, ℕ, true, false, List, arith}
use Rattle.bddl_model.specs.declared.game.Atom.{Atom}
use Rattle.bddl_model.specs.Fitting.{fits}
use Rattle.bddl_model.specs.Limits.{FitsSomewhere}
use Rattle.bddl_model.specs.Check.{fits_somewhere}
use Rattle.grid_game.proofs.Ranges.{some_in_range, none_in_range}
use Rattle.bddl_model.proofs.Anchors.{in_rect_fits, anchor_on_board, on_side_low, on_side_high}

pub found : (width height : ℕ) (atoms : List Atom) → FitsSomewhere width height atoms → fits_somewhere width height atoms ≡ true
found width height atoms (r, rect) =
    let columns = rect.columns in
    let rows = rect.rows in
    let here = in_rect_fits width height atoms r r.x_low r.y_low rect (record { x_low = omega arith; x_high = columns; y_low = omega arith; y_high = rows }) in
    let on_board = anchor_on_board width height r.x_low r.y_low atoms here in
    let right = on_side_high width r.x_low on_board.0 in
    let bottom = on_side_high height r.y_low on_board.1 in
    some_in_range _ 1 height r.y_low (on_side_low height r.y_low on_board.1) (omega arith) (some_in_range _ 1 width r.x_low (on_side_low width r.x_low on_board.0) (omega arith) here)

pub none_found : (width height : ℕ) (atoms : List Atom) → ((x y : ℕ) → fits width height atoms x y ≡ false) → fits_somewhere width height atoms ≡ false
none_found width height atoms no_anchor =
    none_in_range _ 1 height (λ y low high. none_in_range _ 1 width (λ x left right. no_anchor x y))
