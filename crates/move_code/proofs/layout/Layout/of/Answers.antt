use Rattle.std.proofs.Common.{◌-◌, refl, arith}
use Rattle.move_code.proofs.Plies.{plies_turn, end_turn, plies_cover}
use Rattle.move_code.proofs.layout.Layout.of.Goals as goal

pub loop-number-preserved : goal.loop-number-preserved
loop-number-preserved c =
    let z = c.of-sizes.result in
    let ply = c.ply_at-ply.ensures in
    record {
      plies = plies_turn z c.args.depth c.loop-number.number c.loop-number.side c.opponent-side.result c.loop-number.next _ c.ply_at-ply.result c.loop-number-test.true ply.value c.opponent-side.ensures refl c.loop-number.plies.items _ _ c.in_ok-push.ensures.items c.loop-number.invariant.plies;
      next = end_turn z c.args.depth c.loop-number.number c.loop-number.side c.opponent-side.result c.loop-number.next _ c.ply_at-ply.result c.loop-number-test.true ply.value c.opponent-side.ensures refl _ c.loop-number.invariant.next;
      low = omega (arith, ply.order, c.loop-number.invariant.low);
      high = omega (arith, ply.bound, c.loop-number.invariant.high);
    }

pub behind_plies-requires-clause-covered : goal.behind_plies-requires-clause-covered
behind_plies-requires-clause-covered c = plies_cover c.of-sizes.result c.args.depth (c.args.depth - c.loop-number.number) c.args.first c.loop-number.side c.loop-number.next c.loop-number.plies.items (omega arith) c.loop-number.invariant.plies c.loop-number.invariant.next
