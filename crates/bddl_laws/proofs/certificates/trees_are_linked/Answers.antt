use Rattle.bddl_laws.proofs.PreorderLinks.{preorder_linked}
use Rattle.bddl_laws.proofs.certificates.trees_are_linked.Goals as goal

pub returns : goal.returns
returns c = preorder_linked
