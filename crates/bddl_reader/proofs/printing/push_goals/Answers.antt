use Rattle.std.proofs.lemmas.Result.{on_ok_weaker}
use Rattle.bddl_reader.proofs.Pushed.{four_pushed}
use Rattle.bddl_reader.proofs.printing.push_goals.Goals as goal

pub returns : goal.returns
returns c =
    on_ok_weaker c.push_goal_lines-2.result (four_pushed _ _ _ _ _ _ _ _ _ c.in_ok-push.ensures c.in_ok-push_goal_lines.ensures c.in_ok-push-2.ensures) c.push_goal_lines-2.ensures
