use Rattle.std.proofs.Common.{arith, sym, length, get_or}
use Rattle.qdimacs_io.proofs.Numbers.{value_small, digit_small}
use Rattle.qdimacs_io.proofs.tokens.digits_value.Goals as goal

pub overflow_mul-value : goal.overflow_mul-value
overflow_mul-value c =
    let small = value_small c.loop-i.value c.loop-i.i (length c.args.digits.now) c.loop-i.invariant.1 c.loop-i-test.true (omega arith) in
    omega (arith, small)

pub overflow_add-value : goal.overflow_add-value
overflow_add-value c =
    let small = value_small c.loop-i.value c.loop-i.i (length c.args.digits.now) c.loop-i.invariant.1 c.loop-i-test.true (omega arith) in
    let digit = digit_small (get_or c.args.digits.now c.loop-i.i 0) (sym c.if-not-is_digit.ensures) in
    omega (arith, small, digit)
