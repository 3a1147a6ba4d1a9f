use Rattle.std.proofs.Common.{rules}
use Rattle.io_edge.proofs.Added.{added_more, added_stops}
use Rattle.qdimacs_io.proofs.Blocks.{blocks_text_next}
use Rattle.qdimacs_io.proofs.head.add_blocks.Goals as goal

pub returns-in_err-add_block-clause-text : goal.returns-in_err-add_block-clause-text
returns-in_err-add_block-clause-text g c =
    let next = blocks_text_next c.loop-rest.rest.now _ _ _ c.run_length.result c.in-len1-up.len_at_least c.run_length.ensures.run c.split_at.ensures.front c.split_at.ensures.back in
    added_stops _ _ _ _ next _ _ _ _ _ _ c.loop-rest.invariant.added _ c.from_residual.ensures.0 c.in_err-add_block.ensures.text

pub loop-rest-preserved : goal.loop-rest-preserved
loop-rest-preserved g c =
    let next = blocks_text_next c.loop-rest.rest.now _ _ _ c.run_length.result c.in-len1-up.len_at_least c.run_length.ensures.run c.split_at.ensures.front c.split_at.ensures.back in
    record {
      added = added_more _ _ _ _ next _ _ _ _ _ _ c.loop-rest.invariant.added c.in_ok-add_block.ensures.text;
      counts = search rules;
    }
