use Rattle.std.proofs.Common.{◌∙◌}
use Rattle.bddl_model.specs.Layout.{anchor_bits}
use Rattle.bddl_model.proofs.GrowthSums.{item_room, item_grows, item_within}
use Rattle.symbol_cell.specs.Steps.{unit}
use Rattle.lifted_encode.specs.Followed.{step_parts}
use Rattle.lifted_encode.proofs.Carrying.{carry_stays, carry_next}
use Rattle.lifted_encode.proofs.Turns.{no_ply}
use Rattle.lifted_encode.proofs.run.follow_plies.Goals as goal

pub also_follow-requires-clause-room : goal.also_follow-requires-clause-room
also_follow-requires-clause-room c = item_room (unit (anchor_bits c.args.game.now)) (step_parts c.args.game.now) c.args.plies.now c.plies.number no_ply c.args.dag.now c.plies.dag c.plies-test.true c.plies.invariant.grows c.requires.room

pub returns-in_err-also_follow-clause-grows : goal.returns-in_err-also_follow-clause-grows
returns-in_err-also_follow-clause-grows c = item_within (unit (anchor_bits c.args.game.now)) (step_parts c.args.game.now) c.args.plies.now c.plies.number no_ply c.args.dag.now c.plies.dag c.plies-test.true c.plies.invariant.grows c.also_follow.new.dag c.also_follow.ensures.grows

pub plies-preserved : goal.plies-preserved
plies-preserved c =
    let made = c.in_ok-also_follow.ensures in
    record {
      plies = carry_next c.also_follow.new.dag c.args.plies.now c.plies.number c.plies.run.plies c.also_follow.new.run.plies no_ply c.plies-test.true
          (carry_stays _ c.plies.dag c.also_follow.new.dag _ c.plies.run.plies made.grows c.plies.invariant.plies) made.ply.0 made.ply.1 made.ply.2 made.ply.3;
      place = made.place ∙ c.plies.invariant.place;
      stands = λ board h. made.stands board (c.plies.invariant.stands board h);
      grows = item_grows (unit (anchor_bits c.args.game.now)) (step_parts c.args.game.now) c.args.plies.now c.plies.number no_ply c.args.dag.now c.plies.dag c.plies-test.true c.plies.invariant.grows c.also_follow.new.dag made.grows;
    }
