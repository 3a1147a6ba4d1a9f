use Rattle.std.proofs.Common.{◌≡◌, ◌-◌, ◌++◌}
use Rattle.bddl_model.specs.Layout.{bounds}
use Rattle.prenexer.proofs.prefix.push_block.Given as goal

abbrev pub invariant-loop-number : goal.invariant-loop-number
invariant-loop-number l = l.prefix ≡ l.fn.prefix ++ bounds l.block.quant l.from (l.number - l.from)
