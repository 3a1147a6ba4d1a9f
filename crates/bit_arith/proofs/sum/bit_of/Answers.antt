use Rattle.bddl_model.proofs.WireItems.{item_wire}
use Rattle.bit_arith.proofs.sum.bit_of.Goals as goal

pub returns-then-i-a-clause-wire : goal.returns-then-i-a-clause-wire
returns-then-i-a-clause-wire c = item_wire c.args.dag.now c.args.a.now c.args.i _ c.requires c.if-i-a.true
