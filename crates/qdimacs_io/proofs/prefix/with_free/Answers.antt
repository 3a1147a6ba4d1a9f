use Rattle.qdimacs_io.proofs.FreeVariables.{free_apart}
use Rattle.qdimacs_io.proofs.prefix.with_free.Goals as goal

pub push_all-requires-clause-apart : goal.push_all-requires-clause-apart
push_all-requires-clause-apart c = rw c.as_slice-2.ensures (free_apart c.args.variables c.args.occurs.now c.args.prefix c.in_ok-whole.whole c.in_ok-whole.ensures c.keeps_its_variables.ensures.apart c.keeps_its_variables-2.ensures.apart)
