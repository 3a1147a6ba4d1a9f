use Rattle.bddl_laws.proofs.BreadthFirst.{start_made, made_on, made_place, made_shared}
use Rattle.bddl_laws.proofs.certificates.nodes_may_be_made_breadth_first.Goals as goal

pub returns-clause-begins : goal.returns-clause-begins
returns-clause-begins c = start_made

pub returns-clause-goes_on : goal.returns-clause-goes_on
returns-clause-goes_on c = made_on

pub returns-clause-places : goal.returns-clause-places
returns-clause-places c = made_place

pub returns-clause-shared : goal.returns-clause-shared
returns-clause-shared c = made_shared
