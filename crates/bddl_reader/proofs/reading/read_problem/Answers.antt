use Rattle.bddl_model.specs.Grammar.{problem}
use Rattle.bddl_reader.proofs.Lines.{exact_problem}
use Rattle.bddl_reader.proofs.Answered.{only, exact}
use Rattle.bddl_reader.proofs.Spellable.{problem_answered}
use Rattle.bddl_reader.proofs.reading.read_problem.Goals as goal

pub returns-clause-spelled : goal.returns-clause-spelled
returns-clause-spelled c = problem_answered c.args.bytes.now c.problem_of.result c.problem_of.ensures.found

pub returns-clause-only : goal.returns-clause-only
returns-clause-only c = only exact_problem c.args.bytes.now c.problem_of.result c.problem_of.ensures.found c.problem_of.ensures.fault

pub returns-clause-exact : goal.returns-clause-exact
returns-clause-exact c = exact problem c.args.bytes.now c.problem_of.result c.problem_of.ensures.found c.problem_of.ensures.fault
