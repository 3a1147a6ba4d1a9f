use Rattle.std.proofs.Common.{subst, sym}
use Rattle.bddl_model.specs.Grammar.{domain}
use Rattle.bddl_model.specs.Reading.{Reads}
use Rattle.bddl_reader.proofs.SpelledLines.{domain_reads}
use Rattle.bddl_reader.proofs.printing.print_domain.Goals as goal

pub returns-clause-read : goal.returns-clause-read
returns-clause-read c =
    let text = rw c.new-text.ensures.items at c.in_ok-push_domain.ensures in
    subst (λ z. Reads domain z c.args.tree.now) (sym text) (domain_reads c.args.tree.now c.requires)
