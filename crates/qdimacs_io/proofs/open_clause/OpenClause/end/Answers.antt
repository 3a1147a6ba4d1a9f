use Rattle.qdimacs_io.proofs.Tables.{all_covered}
use Rattle.qdimacs_io.proofs.open_clause.OpenClause.end.Goals as goal

pub remove_all-requires-clause-covers : goal.remove_all-requires-clause-covers
remove_all-requires-clause-covers c = rw c.deref-2.ensures.value (all_covered _ _ c.self.invariant)
