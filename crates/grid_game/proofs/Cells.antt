-- Cells of a board.
use Rattle.std.proofs.Common.{◌≡◌, ℕ, ◌-◌, ◌*◌, ◌<◌, true, arith}
use Rattle.std.proofs.lemmas.Nat.{mul-add-lt}
use Rattle.bddl_model.specs.Board.{index}
use Rattle.bddl_model.specs.Fitting.{on_side}
use Rattle.bddl_model.proofs.Anchors.{on_side_low, on_side_high}

pub index_below : (width height x y : ℕ) → on_side width x ≡ true → on_side height y ≡ true → index width x y < height * width
index_below width height x y column row =
    let x_low = on_side_low width x column in
    let x_high = on_side_high width x column in
    let y_low = on_side_low height y row in
    let y_high = on_side_high height y row in
    omega (arith, mul-add-lt (y - 1) width (x - 1) height (omega arith) (omega arith))
