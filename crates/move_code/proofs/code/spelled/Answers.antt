use Rattle.std.proofs.Common.{arith, ap}
use Rattle.bddl_model.specs.Bits.{bits}
use Rattle.bddl_model.specs.Codes.{Shape}
use Rattle.bddl_model.proofs.Bits.{bits_most}
use Rattle.move_code.proofs.code.spelled.Goals as goal

pub number_of-y-requires : goal.number_of-y-requires
number_of-y-requires c =
    let action = ap (λ (s : Shape). bits s.actions) c.shape.view_is in
    let column = ap (λ (s : Shape). bits s.width) c.shape.view_is in
    let height = ap (λ (s : Shape). s.height) c.shape.view_is in
    let short = bits_most c.args.shape.now.height 32 (omega (arith, height, c.shape.ranges)) in
    omega (arith, c.requires, c.bits.ensures.value, c.bits-2.ensures.value, action, column, c.split_at.ensures.back_len, c.split_at-2.ensures.back_len, short)
