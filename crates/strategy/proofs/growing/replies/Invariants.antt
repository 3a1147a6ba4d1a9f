use Rattle.std.proofs.Common.{◌≡◌, Some, map, slice_get, take}
use Rattle.bddl_model.specs.Certificate.{Place}
use Rattle.bddl_laws.specs.BreadthFirst.{AreNumbered}
use Rattle.strategy.proofs.growing.replies.Given as goal

abbrev pub invariant-loop-mv : goal.invariant-loop-mv
invariant-loop-mv l = record {
  moves : map (λ a. a.mv) l.all ≡ take l.mv-index l.moves;
  numbered : (p : Place) × (slice_get l.fn.places l.number ≡ Some p) × AreNumbered l.game p l.all l.fn.places l.places;
  size : (l.board.width ≡ l.fn.board.width) × (l.board.height ≡ l.fn.board.height);
}
