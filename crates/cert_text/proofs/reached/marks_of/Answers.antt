use Rattle.std.proofs.Common.{◌∙◌}
use Rattle.cert_text.proofs.Naming.{marks_more}
use Rattle.cert_text.proofs.reached.marks_of.Goals as goal

pub loop-node-preserved : goal.loop-node-preserved
loop-node-preserved c = record {
  len = c.mark_node.ensures.len ∙ c.loop-node.invariant.len;
  marked = marks_more c.args.nodes.now c.loop-node.node-index c.node-item.result c.loop-node.marks.items c.mark_node.new.marks.items c.loop-node-test.true c.node-item.is c.mark_node.ensures.len c.loop-node.invariant.marked c.mark_node.ensures.marks;
}
