use Rattle.std.proofs.Common.{◌≡◌, [], map, take, drop}
use Rattle.bddl_model.specs.Check.{first_of, each_action}
use Rattle.bddl_model.specs.Setup.{action_of}
use Rattle.offset_check.specs.Checks.{with_actions}
use Rattle.offset_check.proofs.actions.add_actions.Given as goal

abbrev pub invariant-loop-i : goal.invariant-loop-i
invariant-loop-i l =
    let g = l.fn.game in
    record {
      passed : first_of (each_action g.width g.height l.side (take l.i l.actions) (drop l.i l.actions)) ≡ first_of (each_action g.width g.height l.side [] l.actions);
      added : l.game ≡ with_actions g l.side (map (action_of g.width g.height) (take l.i l.actions));
    }
