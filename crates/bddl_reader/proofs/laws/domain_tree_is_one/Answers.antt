use Rattle.bddl_reader.proofs.OneTree.{one_domain}
use Rattle.bddl_reader.proofs.laws.domain_tree_is_one.Goals as goal

pub returns : goal.returns
returns c = one_domain
