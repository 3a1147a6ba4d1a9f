use Rattle.std.proofs.Common.{sym, ap, ◌∙◌}
use Rattle.bddl_model.specs.Setup.{Setup}
use Rattle.cert_checker.proofs.Fine.{are_answers, no_fault}
use Rattle.cert_checker.proofs.check.check_node.Goals as goal

pub name_all-requires-clause-answers : goal.name_all-requires-clause-answers
name_all-requires-clause-answers c =
    are_answers c.args.setup.now c.setup.inside.game _ c.args.at _ c.args.node.now (ap (λ (s : Setup). s.game) c.setup.view_is) (sym c.node_fault.ensures.fault ∙ no_fault c.node_fault.result c.in_default.not-Some) c.requires.later
