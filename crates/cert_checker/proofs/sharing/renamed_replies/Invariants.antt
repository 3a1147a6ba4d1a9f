use Rattle.std.proofs.Common.{take}
use Rattle.cert_checker.specs.Sharing.{AreRenamed}
use Rattle.cert_checker.proofs.sharing.renamed_replies.Given as goal

abbrev pub invariant-loop-reply : goal.invariant-loop-reply
invariant-loop-reply l = AreRenamed l.least (take l.reply-index l.replies) l.renamed l.fn.order.keys l.order.keys
