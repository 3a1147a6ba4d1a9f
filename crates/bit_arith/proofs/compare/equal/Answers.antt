use Rattle.std.proofs.Common.{arith, ◌*◌}
use Rattle.bddl_model.proofs.Growth.{grows_then, grows_within}
use Rattle.bddl_model.proofs.WireItems.{item_stays}
use Rattle.bit_arith.proofs.Turns.{equal_turn}
use Rattle.bit_arith.proofs.compare.equal.Goals as goal

pub also_same-requires-clause-left : goal.also_same-requires-clause-left
also_same-requires-clause-left c = item_stays (4 * c.bits.i) c.args.dag.now c.bits.dag c.args.a.now c.bits.i _ c.bits.invariant.grows c.requires.a (omega arith)

pub also_same-requires-clause-right : goal.also_same-requires-clause-right
also_same-requires-clause-right c = item_stays (4 * c.bits.i) c.args.dag.now c.bits.dag c.args.b.now c.bits.i _ c.bits.invariant.grows c.requires.b (omega arith)

pub bits-preserved : goal.bits-preserved
bits-preserved c = record {
  wire = c.in_ok-all.ensures.wire;
  grows = grows_within (grows_then c.bits.invariant.grows c.in_ok-all.ensures.grows) (omega arith);
  value = λ v. equal_turn (4 * c.bits.i) c.bits.i c.args.dag.now c.bits.dag c.also_same.new.dag c.args.a.now _ c.bits.all c.in_ok-all.all v c.bits.invariant.grows c.requires.a (omega arith) c.args.b.now _ c.requires.b (omega arith) (c.bits.invariant.value v) (c.in_ok-all.ensures.value v);
}
