use Rattle.prenexer.proofs.Joined.{room_for_next}
use Rattle.prenexer.proofs.merge.merged_blocks.Goals as goal

pub add_block-requires : goal.add_block-requires
add_block-requires c = room_for_next c.args.blocks.now c.requires.0 _ c.requires.1 c.requires.2 c.loop-block.block-index _ c.loop-block-test.true c.loop-block.merged.items c.loop-block.invariant
