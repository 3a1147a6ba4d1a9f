use Rattle.std.proofs.Common.{◌≡◌, take, length}
use Rattle.cert_text.specs.Reached.{AreMarked}
use Rattle.cert_text.proofs.reached.marks_of.Given as goal

abbrev pub invariant-loop-node : goal.invariant-loop-node
invariant-loop-node l = record {
  len : length l.marks.items ≡ length l.nodes;
  marked : AreMarked (take l.node-index l.nodes) l.marks.items;
}
