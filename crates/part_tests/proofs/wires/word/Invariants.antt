use Rattle.std.proofs.Common.{◌≡◌, length}
use Rattle.bddl_model.specs.Words.{AreWires}
use Rattle.part_tests.proofs.wires.word.Given as goal

abbrev pub invariant-bits : goal.invariant-bits
invariant-bits l = record {
  wires : AreWires l.fn.dag l.wires.items;
  length : length l.wires.items ≡ l.counter;
}
