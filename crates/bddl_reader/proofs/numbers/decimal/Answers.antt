use Rattle.std.proofs.Common.{ℕ, zero, ◌<◌, ◌≤◌, ◌^◌, arith}
use Rattle.std.proofs.Math.Nat.{pow-le-pow_right}
use Rattle.bddl_reader.proofs.numbers.decimal.Goals as goal

below_nine_digits : (value i : ℕ) → i ≤ 8 → value < 10 ^ i → value < 100000000
below_nine_digits value i few small =
    let some : zero < 10 = omega arith in
    let bound : 10 ^ i ≤ 10 ^ 8 = pow-le-pow_right some few in
    omega arith

pub overflow_mul-value : goal.overflow_mul-value
overflow_mul-value c =
    let small = below_nine_digits c.loop-digit.value c.loop-digit.digit-index (omega arith) c.loop-digit.invariant.small in
    omega arith

pub overflow_add-value : goal.overflow_add-value
overflow_add-value c =
    let small = below_nine_digits c.loop-digit.value c.loop-digit.digit-index (omega arith) c.loop-digit.invariant.small in
    let byte = c.type_inv.text c.loop-digit.digit-index in
    omega arith
