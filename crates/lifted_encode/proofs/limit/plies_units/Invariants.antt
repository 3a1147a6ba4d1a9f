use Rattle.std.proofs.Common.{◌≡◌, ◌≤◌, ◌+◌, ◌*◌, ◌-◌}
use Rattle.bddl_model.specs.Size as spec
use Rattle.lifted_encode.proofs.limit.plies_units.Given as goal

abbrev pub invariant-loop-ply : goal.invariant-loop-ply
invariant-loop-ply l =
    (l.units + spec.plies_units l.game l.side (l.depth - l._ply) ≡ spec.plies_units l.game l.fn.first l.depth)
    × (l.units ≤ 192 * l._ply)
