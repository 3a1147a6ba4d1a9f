use Rattle.bddl_laws.proofs.PlacedNodes.{placed_valid, placed_there}
use Rattle.bddl_laws.proofs.certificates.placed_nodes_are_valid.Goals as goal

pub returns-clause-valid : goal.returns-clause-valid
returns-clause-valid c = placed_valid

pub returns-clause-places : goal.returns-clause-places
returns-clause-places c = placed_there
