use Rattle.prenexer.proofs.Pushed.{next_is_new, one_bound_more}
use Rattle.prenexer.proofs.prefix.push_block.Goals as goal

pub push-requires-clause-new : goal.push-requires-clause-new
push-requires-clause-new c = next_is_new c.args.prefix.now c.args.block.quant c.args.block.span.from c.loop-number.number c.loop-number.auto.number (c.requires c.loop-number.number c.loop-number.auto.number c.loop-number-test.true).2 _ c.loop-number.invariant

pub loop-number-preserved : goal.loop-number-preserved
loop-number-preserved c = one_bound_more c.args.prefix.now c.args.block.quant c.args.block.span.from c.loop-number.number c.loop-number.auto.number _ _ c.loop-number.invariant c.in_ok-push.ensures.ok
