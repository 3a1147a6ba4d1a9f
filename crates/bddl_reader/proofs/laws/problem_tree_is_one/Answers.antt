use Rattle.bddl_reader.proofs.OneTree.{one_problem}
use Rattle.bddl_reader.proofs.laws.problem_tree_is_one.Goals as goal

pub returns : goal.returns
returns c = one_problem
