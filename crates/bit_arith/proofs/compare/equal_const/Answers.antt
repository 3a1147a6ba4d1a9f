use Rattle.std.proofs.Common.{◌&&◌, ap, ◌∙◌, arith}
use Rattle.bddl_model.specs.Circuit.{holds}
use Rattle.bddl_model.proofs.Growth.{grows_then, grows_within}
use Rattle.bddl_model.proofs.WireItems.{item_stays}
use Rattle.bit_arith.proofs.Turns.{constant_turn}
use Rattle.bit_arith.proofs.compare.equal_const.Goals as goal

pub and-requires-clause-right : goal.and-requires-clause-right
and-requires-clause-right c = c.signed-bit.ensures.wire (item_stays c.bits.wire-index c.args.dag.now c.bits.dag c.args.a.now c.bits.wire-index _ c.bits.invariant.grows c.requires.a c.bits-test.true)

pub bits-preserved : goal.bits-preserved
bits-preserved c = record {
  wire = c.in_ok-all.ensures.made.wire;
  grows = grows_within (grows_then c.bits.invariant.grows c.in_ok-all.ensures.made.grows) (omega arith);
  value = λ v. constant_turn c.bits.wire-index c.bits.wire-index c.args.dag.now c.bits.dag c.and.new.self c.args.a.now _ c.bits.all c.in_ok-all.all v c.bits.invariant.grows c.requires.a c.bits-test.true _ c.bits.rest (c.bits.invariant.value v) (c.in_ok-all.ensures.made.value v ∙ ap (λ b. holds c.bits.dag c.bits.all v && b) (c.signed-bit.ensures.value v));
}
