use Rattle.std.proofs.Common.{◌≤◌, ◌*◌, length, sym, subst}
use Rattle.bddl_model.specs.declared.game.Side.TheVariants.{Black}
use Rattle.part_tests.proofs.ListRoom.{fits}
use Rattle.part_tests.proofs.moves.moves_of.Goals as goal

pub moves_into-requires-clause-room : goal.moves_into-requires-clause-room
moves_into-requires-clause-room c = fits c.args.game.now Black c.in_ok-list.list.room c.in_ok-list.ensures.room

pub moves_into-requires-2-clause-room : goal.moves_into-requires-2-clause-room
moves_into-requires-2-clause-room c = subst (λ n. length c.args.game.now.black_actions * c.args.game.now.width * c.args.game.now.height ≤ n) (sym c.moves_into.ensures.room) (fits c.args.game.now Black c.in_ok-list.list.room c.in_ok-list.ensures.room)
