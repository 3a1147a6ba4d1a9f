use Rattle.std.proofs.Common.{◌≡◌, ◌||◌, not, drop}
use Rattle.std.specs.List.{list_any}
use Rattle.bddl_model.specs.Truth.{Assignment}
use Rattle.bddl_model.specs.Circuit.{IsWire, holds}
use Rattle.bddl_model.specs.Growth.{Grows}
use Rattle.bit_arith.proofs.many.any_of.Given as goal

abbrev pub invariant-wires : goal.invariant-wires
invariant-wires l = record {
  wire : IsWire l.dag l.none;
  grows : Grows l.wire-index l.initial.dag l.dag;
  value : (a : Assignment) → (not (holds l.dag l.none a) || list_any (λ w. holds l.initial.dag w a) (drop l.wire-index l.wires)) ≡ list_any (λ w. holds l.initial.dag w a) l.wires;
}
