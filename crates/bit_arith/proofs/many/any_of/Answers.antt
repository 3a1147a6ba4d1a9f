use Rattle.std.proofs.Common.{◌&&◌, ap, ◌∙◌, arith}
use Rattle.bddl_model.specs.Circuit.{holds}
use Rattle.bddl_model.proofs.Growth.{grows_then, grows_within}
use Rattle.bddl_model.proofs.WireItems.{item_stays}
use Rattle.bit_arith.proofs.Turns.{any_turn}
use Rattle.bit_arith.proofs.many.any_of.Goals as goal

pub and-requires-clause-right : goal.and-requires-clause-right
and-requires-clause-right c = c.not-fails.ensures.wire (item_stays c.wires.wire-index c.args.dag.now c.wires.dag c.args.wires.now c.wires.wire-index _ c.wires.invariant.grows c.requires.wires c.wires-test.true)

pub wires-preserved : goal.wires-preserved
wires-preserved c = record {
  wire = c.in_ok-none.ensures.made.wire;
  grows = grows_within (grows_then c.wires.invariant.grows c.in_ok-none.ensures.made.grows) (omega arith);
  value = λ a. any_turn c.wires.wire-index c.wires.wire-index c.args.dag.now c.wires.dag c.and.new.self c.args.wires.now _ c.wires.none c.in_ok-none.none a c.wires.invariant.grows c.requires.wires c.wires-test.true _ (c.wires.invariant.value a) (c.in_ok-none.ensures.made.value a ∙ ap (λ b. holds c.wires.dag c.wires.none a && b) (c.not-fails.ensures.value a));
}
