use Rattle.std.proofs.Common.{arith, ◌*◌}
use Rattle.bddl_model.proofs.Growth.{grows_then, grows_within}
use Rattle.bddl_model.proofs.WireItems.{item_stays}
use Rattle.bit_arith.proofs.Turns.{less_turn}
use Rattle.bit_arith.proofs.compare.less.Goals as goal

pub less_by-requires-clause-left : goal.less_by-requires-clause-left
less_by-requires-clause-left c = item_stays (4 * c.bits.i) c.args.dag.now c.bits.dag c.args.a.now c.bits.i _ c.bits.invariant.grows c.requires.a (omega arith)

pub less_by-requires-clause-right : goal.less_by-requires-clause-right
less_by-requires-clause-right c = item_stays (4 * c.bits.i) c.args.dag.now c.bits.dag c.args.b.now c.bits.i _ c.bits.invariant.grows c.requires.b (omega arith)

pub bits-preserved : goal.bits-preserved
bits-preserved c = record {
  wire = c.in_ok-less.ensures.wire;
  grows = grows_within (grows_then c.bits.invariant.grows c.in_ok-less.ensures.grows) (omega arith);
  value = λ v. less_turn (4 * c.bits.i) c.bits.i c.args.dag.now c.bits.dag c.less_by.new.dag c.args.a.now _ c.bits.less c.in_ok-less.less v c.bits.invariant.grows c.requires.a (omega arith) c.args.b.now _ c.requires.b (omega arith) (c.bits.invariant.value v) (c.in_ok-less.ensures.value v);
}
