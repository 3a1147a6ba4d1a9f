use Rattle.bddl_laws.proofs.ExactLayout.{exact_alone, exact_with, exact_form}
use Rattle.bddl_laws.proofs.Marks.{some_test_meets}
use Rattle.bddl_laws.proofs.exactness.served_claims_are_exact.Goals as goal

pub returns-clause-inputs : goal.returns-clause-inputs
returns-clause-inputs c = exact_alone

pub returns-clause-more : goal.returns-clause-more
returns-clause-more c = exact_with

pub returns-clause-circuit : goal.returns-clause-circuit
returns-clause-circuit c = exact_form

pub returns-clause-some : goal.returns-clause-some
returns-clause-some c = some_test_meets
