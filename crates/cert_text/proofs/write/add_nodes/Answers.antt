use Rattle.std.proofs.Common.{rules}
use Rattle.bddl_model.specs.CertificateText.{numbered, node_text}
use Rattle.io_edge.proofs.Added.{added_more, added_stops}
use Rattle.io_edge.proofs.Added.{flat_map_next}
use Rattle.cert_text.proofs.write.add_nodes.Goals as goal

pub returns-in_err-add_node-clause-text : goal.returns-in_err-add_node-clause-text
returns-in_err-add_node-clause-text g c =
    let next = flat_map_next (node_text numbered) c.args.nodes.now c.loop-node.node-index _ _ c.loop-node-test.true c.node-item.is in
    added_stops _ _ _ _ next _ _ _ _ _ _ c.loop-node.invariant.added _ c.from_residual.ensures.0 c.in_err-add_node.ensures.text

pub loop-node-preserved : goal.loop-node-preserved
loop-node-preserved g c =
    let next = flat_map_next (node_text numbered) c.args.nodes.now c.loop-node.node-index _ _ c.loop-node-test.true c.node-item.is in
    record {
      added = added_more _ _ _ _ next _ _ _ _ _ _ c.loop-node.invariant.added c.in_ok-add_node.ensures.text;
      counts = search rules;
    }
