use Rattle.std.proofs.Common.{◌≡◌, take}
use Rattle.bddl_model.specs.Prenex.{merged}
use Rattle.prenexer.proofs.merge.merged_blocks.Given as goal

abbrev pub invariant-loop-block : goal.invariant-loop-block
invariant-loop-block l = l.merged.items ≡ merged (take l.block-index l.blocks)
