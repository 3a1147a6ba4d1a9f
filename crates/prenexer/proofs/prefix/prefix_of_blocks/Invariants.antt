use Rattle.std.proofs.Common.{◌≡◌, ◌++◌, drop}
use Rattle.bddl_model.specs.Layout.{prefix_of}
use Rattle.prenexer.proofs.prefix.prefix_of_blocks.Given as goal

abbrev pub invariant-loop-block : goal.invariant-loop-block
invariant-loop-block l = l.prefix ++ prefix_of (drop l.block-index l.blocks) ≡ prefix_of l.blocks
