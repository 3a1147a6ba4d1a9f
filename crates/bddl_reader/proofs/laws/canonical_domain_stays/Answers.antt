use Rattle.std.proofs.Common.{ap}
use Rattle.bddl_model.specs.Canonical.{domain_text}
use Rattle.bddl_reader.proofs.OneTree.{one_domain_read}
use Rattle.bddl_reader.proofs.SpelledLines.{domain_reads}
use Rattle.bddl_reader.proofs.laws.canonical_domain_stays.Goals as goal

pub returns : goal.returns
returns c = λ d e can read. ap domain_text (one_domain_read (domain_text d) e d read (domain_reads d can))
