use Rattle.prenexer.proofs.Pushed.{block_is_new, one_block_more}
use Rattle.prenexer.proofs.prefix.prefix_of_blocks.Goals as goal

pub push_block-requires : goal.push_block-requires
push_block-requires c = block_is_new c.args.blocks.now c.loop-block.block-index _ c.loop-block-test.true c.loop-block.prefix c.loop-block.invariant c.requires.0 _ c.requires.1 c.requires.2

pub loop-block-preserved : goal.loop-block-preserved
loop-block-preserved c = one_block_more c.args.blocks.now c.loop-block.block-index _ c.loop-block-test.true c.loop-block.prefix c.loop-block.invariant _ c.in_ok-push_block.ensures
