use Rattle.std.proofs.Common.{ℕ, suc, ◌≡◌, ◌<◌, ◌+◌, ◌-◌, ap, arith}
use Rattle.bddl_model.specs.declared.game.Side.{Side}
use Rattle.bddl_model.specs.Game.{Game, opponent}
use Rattle.bddl_model.specs.Size.{ply_units, plies_units}
use Rattle.lifted_encode.proofs.limit.plies_units.Goals as goal

one_ply : (g : Game) (side : Side) (depth ply : ℕ) → ply < depth → plies_units g side (depth - ply) ≡ ply_units g side + plies_units g (opponent side) (depth - (ply + 1))
one_ply g side depth ply more = ap (plies_units g side) (let left : depth - ply ≡ suc (depth - (ply + 1)) = omega (arith, more) in left)

pub loop-ply-preserved : goal.loop-ply-preserved
loop-ply-preserved c =
    let one = one_ply c.args.game.now c.loop-ply.side c.args.depth c.loop-ply._ply c.loop-ply-test.true in
    let units = c.ply_units-units.ensures.units in
    let few = c.ply_units-units.ensures.few in
    let before = c.loop-ply.invariant.0 in
    let within = c.loop-ply.invariant.1 in
    (rw c.opponent-side.ensures (omega (arith, one, units, before)), omega (arith, few, within))
