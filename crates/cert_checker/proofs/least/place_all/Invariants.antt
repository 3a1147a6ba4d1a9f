use Rattle.std.proofs.Common.{◌≡◌}
use Rattle.cert_checker.specs.Placing.{AreFound}
use Rattle.cert_checker.proofs.least.place_all.Given as goal

abbrev pub invariant-loop-number : goal.invariant-loop-number
invariant-loop-number l = record {
  size : (l.room.width ≡ l.setup.game.width) × (l.room.height ≡ l.setup.game.height);
  found : AreFound l.setup l.nodes l.placing l.number;
}
