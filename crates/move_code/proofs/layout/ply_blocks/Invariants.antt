use Rattle.std.proofs.Common.{◌≡◌, ◌++◌, drop}
use Rattle.bddl_model.specs.Layout.{plies_blocks}
use Rattle.move_code.proofs.layout.ply_blocks.Given as goal

abbrev pub invariant-loop-ply : goal.invariant-loop-ply
invariant-loop-ply l = l.blocks.items ++ plies_blocks (drop l.ply-index l.plies) ≡ plies_blocks l.plies
