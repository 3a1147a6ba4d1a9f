use Rattle.std.proofs.Common.{◌≡◌}
use Rattle.cert_text.specs.Reading.{answers_at, version_of}
use Rattle.cert_text.proofs.Answering.{with_front}
use Rattle.cert_text.proofs.line.answers.Given as goal

abbrev pub invariant-replies : goal.invariant-replies
invariant-replies l = with_front l.replies (answers_at (version_of l.version) l.left l.rest) ≡ answers_at (version_of l.version) l.count l.bytes

abbrev pub decreases-replies : goal.decreases-replies
decreases-replies l = l.left
