use Rattle.std.proofs.Common.{ℕ, zero, ◌<◌, ◌≤◌, ◌^◌, arith}
use Rattle.std.proofs.Math.Nat.{pow-le-pow_right}
use Rattle.game_play.proofs.players.typed.number_on.Goals as goal

below_19_digits : (number i : ℕ) → i ≤ 18 → number < 10 ^ i → number < 1000000000000000000
below_19_digits number i few small =
    let some : zero < 10 = omega arith in
    let bound : 10 ^ i ≤ 10 ^ 18 = pow-le-pow_right some few in
    omega arith

pub overflow_mul-number : goal.overflow_mul-number
overflow_mul-number c =
    let small = below_19_digits c.loop-digit.number c.loop-digit.digit-index (omega arith) c.loop-digit.invariant.small in
    omega arith

pub overflow_add-number : goal.overflow_add-number
overflow_add-number c =
    let small = below_19_digits c.loop-digit.number c.loop-digit.digit-index (omega arith) c.loop-digit.invariant.small in
    let byte = c.type_inv.line c.loop-digit.digit-index in
    omega arith
