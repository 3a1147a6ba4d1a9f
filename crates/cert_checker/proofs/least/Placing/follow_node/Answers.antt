use Rattle.std.proofs.Common.{◌≡◌, Some, sym, ap, ◌∙◌, subst, slice_get}
use Rattle.std.specs.Prelude.{OnOk}
use Rattle.bddl_model.specs.Certificate.{Place}
use Rattle.bddl_model.specs.CertificateGraph.{answers}
use Rattle.cert_checker.specs.Placing.{of_node, AllStand}
use Rattle.cert_checker.proofs.Fine.{answers_same}
use Rattle.cert_checker.proofs.least.Placing.follow_node.Goals as goal

pub follow_all-requires-clause-answers : goal.follow_all-requires-clause-answers
follow_all-requires-clause-answers c p found = answers_same c.args.setup.now _ c.args.number p c.args.node.now _ (sym (ap answers c.in-Black.is)) (c.requires.answers p found)

pub follow_all-requires-in-White-clause-answers : goal.follow_all-requires-in-White-clause-answers
follow_all-requires-in-White-clause-answers c p found = answers_same c.args.setup.now _ c.args.number p c.args.node.now _ (c.as_slice.ensures ∙ sym (ap answers c.in-White.is)) (c.requires.answers p found)

pub returns-in-Black-clause-stands : goal.returns-in-Black-clause-stands
returns-in-Black-clause-stands c =
    subst (λ all. OnOk c.follow_all.result ((p : Place) → slice_get c.args.self.now.places (of_node c.args.self.now c.args.number) ≡ Some p → AllStand c.args.setup.now.game p all c.args.self.now c.follow_all.new.self))
    (sym (ap answers c.in-Black.is)) c.follow_all.ensures.stands
