use Rattle.std.proofs.Common.{subst, sym}
use Rattle.bddl_model.specs.Grammar.{problem}
use Rattle.bddl_model.specs.Reading.{Reads}
use Rattle.bddl_reader.proofs.SpelledLines.{problem_reads}
use Rattle.bddl_reader.proofs.printing.print_problem.Goals as goal

pub returns-clause-read : goal.returns-clause-read
returns-clause-read c =
    let text = rw c.new-text.ensures.items at c.in_ok-push_problem.ensures in
    subst (λ z. Reads problem z c.args.tree.now) (sym text) (problem_reads c.args.tree.now c.requires)
