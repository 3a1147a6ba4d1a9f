use Rattle.std.proofs.Common.{◌≡◌, ◌+◌, ◌≤◌, length}
use Rattle.lifted_encode.specs.Encoded.{setup_of}
use Rattle.strategy.specs.Growing.{Grows, waiting}
use Rattle.strategy.proofs.extracting.grow.Given as goal

abbrev pub invariant-nodes : goal.invariant-nodes
invariant-nodes g l = record {
  grows : Grows (setup_of l.game l.board.marks l.fn.first l.depth) l.growing;
  used : l.fn.steps.used ≤ l.steps.used;
  waits : l.steps.used + waiting (setup_of l.game l.board.marks l.fn.first l.depth) l.growing.places (length l.growing.nodes) ≤ l.fn.steps.used + waiting (setup_of l.game l.board.marks l.fn.first l.depth) l.fn.growing.places (length l.fn.growing.nodes);
  budget : l.steps.budget ≡ l.fn.steps.budget;
  size : (l.room.width ≡ l.game.width) × (l.room.height ≡ l.game.height);
}

abbrev pub decreases-nodes : goal.decreases-nodes
decreases-nodes g l = waiting (setup_of l.game l.board.marks l.fn.first l.depth) l.growing.places (length l.growing.nodes)
