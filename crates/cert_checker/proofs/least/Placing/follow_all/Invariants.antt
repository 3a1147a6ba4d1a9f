use Rattle.std.proofs.Common.{◌≡◌, Some, slice_get, take}
use Rattle.bddl_model.specs.Certificate.{Place}
use Rattle.cert_checker.specs.Placing.{of_node, AllStand}
use Rattle.cert_checker.proofs.Placings.{Keeps}
use Rattle.cert_checker.proofs.least.Placing.follow_all.Given as goal

abbrev pub invariant-loop-answer : goal.invariant-loop-answer
invariant-loop-answer l = record {
  size : (l.room.width ≡ l.setup.game.width) × (l.room.height ≡ l.setup.game.height);
  keeps : Keeps l.node l.fn.self l.self;
  stood : (p : Place) → slice_get l.fn.self.places (of_node l.fn.self l.node) ≡ Some p → AllStand l.setup.game p (take l.answer-index l.answers) l.fn.self l.self;
}
