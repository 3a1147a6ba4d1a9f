use Rattle.std.proofs.Common.{◌≡◌, ◌&&◌, drop}
use Rattle.std.specs.List.{list_all}
use Rattle.bddl_model.specs.Truth.{Assignment}
use Rattle.bddl_model.specs.Circuit.{IsWire, holds}
use Rattle.bddl_model.specs.Growth.{Grows}
use Rattle.bit_arith.proofs.many.all_of.Given as goal

abbrev pub invariant-wires : goal.invariant-wires
invariant-wires l = record {
  wire : IsWire l.dag l.all;
  grows : Grows l.wire-index l.initial.dag l.dag;
  value : (a : Assignment) → (holds l.dag l.all a && list_all (λ w. holds l.initial.dag w a) (drop l.wire-index l.wires)) ≡ list_all (λ w. holds l.initial.dag w a) l.wires;
}
