use Rattle.std.proofs.Common.{◌≡◌, ◌+◌, ◌*◌, not, nat_le, nat_lt, drop}
use Rattle.bddl_model.specs.Truth.{Assignment}
use Rattle.bddl_model.specs.Circuit.{IsWire, holds}
use Rattle.bddl_model.specs.Growth.{Grows}
use Rattle.bddl_model.specs.Words.{word_value}
use Rattle.bit_arith.specs.Digits.{digit}
use Rattle.bit_arith.proofs.compare.less.Given as goal

abbrev pub invariant-bits : goal.invariant-bits
invariant-bits l = record {
  wire : IsWire l.dag l.less;
  grows : Grows (4 * l.i) l.initial.dag l.dag;
  value : (v : Assignment) → nat_le (word_value l.initial.dag (drop l.i l.a) v + digit (not (holds l.dag l.less v))) (word_value l.initial.dag (drop l.i l.b) v) ≡ nat_lt (word_value l.initial.dag l.a v) (word_value l.initial.dag l.b v);
}
