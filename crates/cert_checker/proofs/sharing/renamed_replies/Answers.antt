use Rattle.std.proofs.Common.{[], refl, sym, subst}
use Rattle.std.proofs.lemmas.List.{take_all}
use Rattle.cert_checker.specs.Sharing.{AreRenamed}
use Rattle.cert_checker.proofs.Renaming.{reply_more}
use Rattle.cert_checker.proofs.sharing.renamed_replies.Goals as goal

pub loop-reply-init : goal.loop-reply-init
loop-reply-init c = subst (λ bs. AreRenamed c.args.least.now [] bs c.args.order.now.keys c.args.order.now.keys) (sym c.new-renamed.ensures) refl

pub loop-reply-preserved : goal.loop-reply-preserved
loop-reply-preserved c =
    reply_more c.args.least.now c.args.replies.now c.loop-reply.renamed c.push.new.self c.loop-reply.reply-index c.in_ok-answer.answer _ c.args.order.now.keys c.loop-reply.order.keys c.renamed_answer.new.order.keys
    c.loop-reply-test.true c.loop-reply.invariant c.in_ok-answer.ensures c.in_ok-push.ensures.ok

pub returns : goal.returns
returns c = subst (λ all. AreRenamed c.args.least.now all c.loop-reply.renamed c.args.order.now.keys c.loop-reply.order.keys) (take_all c.loop-reply.reply-index c.args.replies.now c.loop-reply-test.false) c.loop-reply.invariant
