use Rattle.std.proofs.Common.{◌≡◌, ◌≤◌, ◌+◌, ◌*◌, drop}
use Rattle.std.specs.List.{sum_by}
use Rattle.bddl_model.specs.Game.{lines}
use Rattle.bddl_model.specs.Size.{line_units}
use Rattle.lifted_encode.proofs.limit.lines_units.Given as goal

abbrev pub invariant-loop-number : goal.invariant-loop-number
invariant-loop-number l =
    (l.units + sum_by line_units (drop l.number (lines l.game l.side)) ≡ sum_by line_units (lines l.game l.side))
    × (l.units ≤ 18 * l.number)
