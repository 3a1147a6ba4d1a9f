use Rattle.cert_text.proofs.Naming.{black_below}
use Rattle.cert_text.proofs.reached.mark_node.Goals as goal

pub mark-requires : goal.mark-requires
mark-requires c = black_below _ c.args.node.now c.in-Black.mv c.in-Black.next c.in-Black.is c.requires
