use Rattle.std.proofs.Common.{arith}
use Rattle.bddl_model.specs.declared.certificate.Node.TheVariants as nodes
use Rattle.strategy.proofs.NodesAt.{move_is_node}
use Rattle.strategy.proofs.growing.Growing.black_node.Goals as goal

pub returns-in_ok-add_black-in-Move-clause-made : goal.returns-in_ok-add_black-in-Move-clause-made
returns-in_ok-add_black-in-Move-clause-made g c was =
    let by = rw c.in-Move.is at c.in_ok-mv.ensures.wins in
    let made = c.in_ok-add_black-in-Move.ensures.node in
    (nodes.Black c.in-Move.mv made.0, made.1, move_is_node c.args.game.now c.args.board.now.marks c.args.left c.in-Move.mv made.0 (omega arith) by)
