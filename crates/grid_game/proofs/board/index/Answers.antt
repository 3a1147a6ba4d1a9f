use Rattle.grid_game.proofs.Cells.{index_below}
use Rattle.grid_game.proofs.board.index.Goals as goal

pub returns-clause-within : goal.returns-clause-within
returns-clause-within c = index_below c.args.width c.args.height c.args.x c.args.y c.requires.column c.requires.row
