use Rattle.std.proofs.Common.{arith}
use Rattle.bddl_model.proofs.Growth.{grows_then, grows_within}
use Rattle.bddl_model.proofs.WireItems.{item_stays}
use Rattle.bit_arith.proofs.Turns.{reached_turn}
use Rattle.bit_arith.proofs.compare.at_least.Goals as goal

pub join-requires-clause-right : goal.join-requires-clause-right
join-requires-clause-right c = item_stays c.bits.wire-index c.args.dag.now c.bits.dag c.args.a.now c.bits.wire-index _ c.bits.invariant.grows c.requires.a c.bits-test.true

pub bits-preserved : goal.bits-preserved
bits-preserved c = record {
  wire = c.in_ok-reached.ensures.wire;
  grows = grows_within (grows_then c.bits.invariant.grows c.in_ok-reached.ensures.grows) (omega arith);
  value = λ v. reached_turn c.bits.wire-index c.bits.wire-index c.args.dag.now c.bits.dag c.join.new.dag c.args.a.now _ c.bits.reached c.in_ok-reached.reached v c.bits.invariant.grows c.requires.a c.bits-test.true _ c.bits.rest (c.bits.invariant.value v) (c.in_ok-reached.ensures.value v);
}
