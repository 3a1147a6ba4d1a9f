use Rattle.std.proofs.lemmas.List.Elements.{All-from_recursion}
use Rattle.bddl_model.specs.Fine.{FineClauseOf}
use Rattle.bddl_laws.proofs.Originals.{fine_implied, fine_originals}
use Rattle.bddl_laws.proofs.constraints.original_clause_is_fine.Goals as goal

pub returns-clause-implied : goal.returns-clause-implied
returns-clause-implied c = fine_implied

pub returns-clause-of_form : goal.returns-clause-of_form
returns-clause-of_form c kept f i = All-from_recursion (FineClauseOf kept f) f.clauses (fine_originals kept f i)
