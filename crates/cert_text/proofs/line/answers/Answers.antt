use Rattle.std.proofs.Common.{arith}
use Rattle.cert_text.specs.Reading.{version_of}
use Rattle.cert_text.proofs.Answering.{goes_on, stuck, is_done}
use Rattle.cert_text.proofs.line.answers.Goals as goal

pub returns-in_default : goal.returns-in_default
returns-in_default c = stuck (version_of c.args.version) c.replies.left c.replies.replies c.replies.rest.now _ (omega arith) c.in_default.ensures c.replies.invariant

pub replies-preserved : goal.replies-preserved
replies-preserved c = rw c.in_ok-push.ensures.ok (goes_on (version_of c.args.version) c.replies.left c.replies.replies c.replies.rest.now c.in-Some.behind.now c.in-Some.reply _ (omega arith) c.in-Some.ensures c.replies.invariant)

pub returns : goal.returns
returns c = is_done (version_of c.args.version) c.replies.left c.replies.replies c.replies.rest.now _ (omega arith) c.replies.invariant
