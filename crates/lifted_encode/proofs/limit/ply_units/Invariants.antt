use Rattle.std.proofs.Common.{◌≡◌, ◌≤◌, ◌+◌, ◌*◌, drop}
use Rattle.std.specs.List.{sum_by}
use Rattle.bddl_model.specs.Game.{actions}
use Rattle.bddl_model.specs.Size.{action_units}
use Rattle.lifted_encode.proofs.limit.ply_units.Given as goal

abbrev pub invariant-loop-action : goal.invariant-loop-action
invariant-loop-action l =
    (l.units + sum_by (action_units l.side) (drop l.action (actions l.game l.side)) ≡ sum_by (action_units l.side) (actions l.game l.side))
    × (l.units ≤ 24 * l.action)
