use Rattle.std.proofs.Common.{◌≡◌, drop}
use Rattle.std.specs.Prelude.{flat_map}
use Rattle.bddl_model.specs.CertificateText.{numbered, node_text}
use Rattle.io_edge.proofs.Added.{Added}
use Rattle.cert_text.proofs.write.add_nodes.Given as goal

abbrev pub invariant-loop-node : goal.invariant-loop-node
invariant-loop-node g l = record {
  added : Added (flat_map (node_text numbered) l.nodes) (flat_map (node_text numbered) (drop l.node-index l.nodes)) (g.K.Sink.written l.fn.sink) l.fn.buffer (g.K.Sink.written l.sink) l.buffer;
  counts : g.K.Sink.faults l.fn.sink ≡ g.K.Sink.faults l.sink;
}
