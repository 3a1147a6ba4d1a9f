use Rattle.qdimacs_io.proofs.Tables.{none_marked, none_seen}
use Rattle.qdimacs_io.proofs.open_clause.OpenClause.new.Goals as goal

pub invariant_of-result : goal.invariant_of-result
invariant_of-result c = none_marked _ _ _ c.new.ensures.items c.in_ok-new.ensures

pub returns : goal.returns
returns c = none_seen _ _ _ c.new.ensures.items c.in_ok-new.ensures
