use Rattle.bddl_model.specs.Canonical.{action_text}
use Rattle.bddl_reader.proofs.Pushed.{next_pushed}
use Rattle.bddl_reader.proofs.printing.push_actions.Goals as goal

pub loop-action-preserved : goal.loop-action-preserved
loop-action-preserved c = next_pushed action_text c.args.actions.now c.loop-action.action-index _ c.loop-action-test.true c.action-item.is _ _ _ c.loop-action.invariant c.in_ok-push_action.ensures
