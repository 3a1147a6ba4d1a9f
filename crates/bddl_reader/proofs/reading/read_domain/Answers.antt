use Rattle.bddl_model.specs.Grammar.{domain}
use Rattle.bddl_reader.proofs.Lines.{exact_domain}
use Rattle.bddl_reader.proofs.Answered.{only, exact}
use Rattle.bddl_reader.proofs.Spellable.{domain_answered}
use Rattle.bddl_reader.proofs.reading.read_domain.Goals as goal

pub returns-clause-spelled : goal.returns-clause-spelled
returns-clause-spelled c = domain_answered c.args.bytes.now c.domain_of.result c.domain_of.ensures.found

pub returns-clause-only : goal.returns-clause-only
returns-clause-only c = only exact_domain c.args.bytes.now c.domain_of.result c.domain_of.ensures.found c.domain_of.ensures.fault

pub returns-clause-exact : goal.returns-clause-exact
returns-clause-exact c = exact domain c.args.bytes.now c.domain_of.result c.domain_of.ensures.found c.domain_of.ensures.fault
