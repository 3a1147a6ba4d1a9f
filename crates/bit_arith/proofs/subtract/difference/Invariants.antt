use Rattle.std.proofs.Common.{◌≡◌, ◌+◌, ◌*◌, ◌^◌, not, map, drop, length}
use Rattle.bddl_model.specs.Truth.{Assignment}
use Rattle.bddl_model.specs.Circuit.{IsWire, holds}
use Rattle.bddl_model.specs.Growth.{Grows}
use Rattle.bddl_model.specs.Words.{AreWires, word_bits, number_of_bits, word_value}
use Rattle.bit_arith.specs.Digits.{digit}
use Rattle.bit_arith.proofs.subtract.difference.Given as goal

abbrev pub invariant-bits : goal.invariant-bits
invariant-bits l = record {
  carry : IsWire l.dag l.carry;
  wires : AreWires l.dag l.digits.items;
  length : length l.digits.items ≡ l.i;
  grows : Grows (7 * l.i) l.fn.dag l.dag;
  value : (v : Assignment) → word_value l.dag l.digits.items v + 2 ^ l.i * (digit (holds l.dag l.carry v) + number_of_bits (drop l.i (word_bits l.fn.dag l.a v)) + number_of_bits (drop l.i (map not (word_bits l.fn.dag l.b v)))) ≡ word_value l.fn.dag l.a v + (number_of_bits (map not (word_bits l.fn.dag l.b v)) + 1);
}
