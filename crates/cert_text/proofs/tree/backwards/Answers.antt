use Rattle.std.proofs.Common.{◌-◌, arith}
use Rattle.cert_text.proofs.Trees.{enough_roots}
use Rattle.cert_text.proofs.tree.backwards.Goals as goal

pub node_with_roots-requires : goal.node_with_roots-requires
node_with_roots-requires c = enough_roots (c.nodes.n - 1) c.nodes.n c.args.nodes.now c.index-nodes-n.result c.nodes.roots.items (omega arith) (omega arith) c.index-nodes-n.is c.requires c.nodes.invariant.roots
