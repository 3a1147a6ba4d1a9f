use Rattle.std.proofs.Common.{sym, ap, ◌∙◌}
use Rattle.bddl_model.specs.CertificateGraph.{answers}
use Rattle.cert_checker.proofs.Fine.{answers_same}
use Rattle.cert_checker.proofs.check.name_all.Goals as goal

pub name_answers-requires-clause-answers : goal.name_answers-requires-clause-answers
name_answers-requires-clause-answers c = answers_same c.args.setup.now _ c.args.number _ c.args.node.now _ (sym (ap answers c.in-Black.is)) c.requires.answers

pub name_answers-requires-in-White-clause-answers : goal.name_answers-requires-in-White-clause-answers
name_answers-requires-in-White-clause-answers c = answers_same c.args.setup.now _ c.args.number _ c.args.node.now _ (c.as_slice.ensures ∙ sym (ap answers c.in-White.is)) c.requires.answers
