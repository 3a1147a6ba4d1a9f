use Rattle.std.proofs.Common.{◌≡◌, ◌&&◌, ◌*◌, ◌==◌, drop}
use Rattle.bddl_model.specs.Truth.{Assignment}
use Rattle.bddl_model.specs.Circuit.{IsWire, holds}
use Rattle.bddl_model.specs.Growth.{Grows}
use Rattle.bddl_model.specs.Words.{word_value}
use Rattle.bit_arith.proofs.compare.equal.Given as goal

abbrev pub invariant-bits : goal.invariant-bits
invariant-bits l = record {
  wire : IsWire l.dag l.all;
  grows : Grows (4 * l.i) l.initial.dag l.dag;
  value : (v : Assignment) → (holds l.dag l.all v && (word_value l.initial.dag (drop l.i l.a) v == word_value l.initial.dag (drop l.i l.b) v)) ≡ (word_value l.initial.dag l.a v == word_value l.initial.dag l.b v);
}
