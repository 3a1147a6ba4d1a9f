use Rattle.std.proofs.Common.{length, ap, arith}
use Rattle.move_code.proofs.CodeSplit.{few_gates}
use Rattle.part_tests.proofs.ranges.range_is.Goals as goal

pub in_range-requires-clause-room : goal.in_range-requires-clause-room
in_range-requires-clause-room c = omega (arith, c.in_ok-dag.ensures.inputs, ap length c.in_ok-dag.ensures.gates, few_gates c.args.game.now c.args.side c.keeps_the_limits.ensures)
