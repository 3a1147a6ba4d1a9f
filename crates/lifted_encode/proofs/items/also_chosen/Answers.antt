use Rattle.std.proofs.Common.{◌&&◌, ◌||◌, ap₂, ◌∙◌, arith}
use Rattle.bddl_model.proofs.Growth.{grows_then, makes_after}
use Rattle.lifted_encode.specs.Asking.{meet_from}
use Rattle.lifted_encode.proofs.Meeting.{asked_stays, question_kept, spot_stays, here_kept}
use Rattle.lifted_encode.proofs.items.also_chosen.Goals as goal

pub all_meet-requires-clause-asked : goal.all_meet-requires-clause-asked
all_meet-requires-clause-asked c = asked_stays _ c.args.dag.now c.chooses.new.dag c.in_ok-chosen.ensures.grows c.args.asked c.requires.asked

pub all_meet-requires-clause-spot : goal.all_meet-requires-clause-spot
all_meet-requires-clause-spot c = spot_stays _ c.args.dag.now c.chooses.new.dag c.in_ok-chosen.ensures.grows c.args.spot c.requires.spot

pub returns : goal.returns
returns c =
    let chosen = c.in_ok-chosen.ensures in
    let met = c.in_ok-met.ensures in
    let grown = grows_then chosen.grows met.grows in
    makes_after grown c.or_both.ensures (omega arith) (λ a.
    ap₂ (λ x y. x || y) (grown.kept c.args.known a c.requires.known)
    (ap₂ (λ x y. x && y)
    (met.grows.kept c.in_ok-chosen.chosen a chosen.wire ∙ chosen.value a)
    (met.value a ∙ ap₂ (λ q h. meet_from q 0 h c.args.tests.now)
    (question_kept _ c.args.dag.now c.chooses.new.dag chosen.grows c.args.asked a c.requires.asked)
    (here_kept _ c.args.dag.now c.chooses.new.dag chosen.grows c.args.spot a c.requires.spot))))
