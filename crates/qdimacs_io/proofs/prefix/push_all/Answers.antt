use Rattle.std.proofs.lemmas.List.{drop_more}
use Rattle.qdimacs_io.proofs.FreeVariables.{next_unbound}
use Rattle.qdimacs_io.proofs.prefix.push_all.Goals as goal

pub push-requires-clause-new : goal.push-requires-clause-new
push-requires-clause-new c = next_unbound c.loop-bound.prefix _ _ _ _ (drop_more c.args.bounds.now c.loop-bound.bound-index _ c.loop-bound-test.true) c.loop-bound.invariant.all c.requires.apart
