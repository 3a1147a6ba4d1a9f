use Rattle.std.proofs.Common.{ap}
use Rattle.bddl_model.specs.Canonical.{problem_text}
use Rattle.bddl_reader.proofs.OneTree.{one_problem_read}
use Rattle.bddl_reader.proofs.SpelledLines.{problem_reads}
use Rattle.bddl_reader.proofs.laws.canonical_problem_stays.Goals as goal

pub returns : goal.returns
returns c = λ p q can read. ap problem_text (one_problem_read (problem_text p) q p read (problem_reads p can))
