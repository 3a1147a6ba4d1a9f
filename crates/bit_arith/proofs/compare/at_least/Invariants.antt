use Rattle.std.proofs.Common.{◌≡◌, ◌+◌, not, nat_le, drop}
use Rattle.bddl_model.specs.Truth.{Assignment}
use Rattle.bddl_model.specs.Circuit.{IsWire, holds}
use Rattle.bddl_model.specs.Growth.{Grows}
use Rattle.bddl_model.specs.Words.{word_value}
use Rattle.bit_arith.specs.Digits.{digit}
use Rattle.bit_arith.proofs.compare.at_least.Given as goal

abbrev pub invariant-bits : goal.invariant-bits
invariant-bits l = record {
  wire : IsWire l.dag l.reached;
  grows : Grows l.wire-index l.initial.dag l.dag;
  value : (v : Assignment) → nat_le (l.rest + digit (not (holds l.dag l.reached v))) (word_value l.initial.dag (drop l.wire-index l.a) v) ≡ nat_le l.fn.k (word_value l.initial.dag l.a v);
}
