use Rattle.bddl_model.specs.declared.game.Side.TheVariants.{White}
use Rattle.cert_checker.proofs.node.node_fault.Goals as goal

pub replies_fault-requires-clause-room : goal.replies_fault-requires-clause-room
replies_fault-requires-clause-room c = c.requires.room White
