use Rattle.part_tests.proofs.ListRoom.{fits}
use Rattle.part_tests.proofs.cells.moves_of_side.Goals as goal

pub moves_into-requires-clause-room : goal.moves_into-requires-clause-room
moves_into-requires-clause-room c = fits c.args.game.now c.args.side c.in_ok-list.list.room c.in_ok-list.ensures.room
