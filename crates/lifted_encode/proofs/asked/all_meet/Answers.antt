use Rattle.std.proofs.Common.{arith}
use Rattle.bddl_model.proofs.Growth.{grows_then, grows_within}
use Rattle.lifted_encode.proofs.Meeting.{asked_stays, question_kept, spot_stays, here_kept, meet_turn}
use Rattle.lifted_encode.proofs.asked.all_meet.Goals as goal

pub also_meets-requires-clause-asked : goal.also_meets-requires-clause-asked
also_meets-requires-clause-asked c = asked_stays _ c.args.dag.now c.tests.dag c.tests.invariant.grows c.args.asked c.requires.asked

pub also_meets-requires-clause-spot : goal.also_meets-requires-clause-spot
also_meets-requires-clause-spot c = spot_stays _ c.args.dag.now c.tests.dag c.tests.invariant.grows c.args.spot c.requires.spot

pub tests-preserved : goal.tests-preserved
tests-preserved c = record {
  wire = c.in_ok-all.ensures.wire;
  grows = grows_within (grows_then c.tests.invariant.grows c.in_ok-all.ensures.grows) (omega arith);
  value = λ a. meet_turn _ _ c.tests.number _ _ c.args.tests.now _ _ _ _ c.tests-test.true
      (question_kept _ c.args.dag.now c.tests.dag c.tests.invariant.grows c.args.asked a c.requires.asked)
      (here_kept _ c.args.dag.now c.tests.dag c.tests.invariant.grows c.args.spot a c.requires.spot)
      (c.tests.invariant.value a) (c.in_ok-all.ensures.value a);
}
