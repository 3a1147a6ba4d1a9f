use Rattle.bddl_model.proofs.Moves.{moves_keep_the_size}
use Rattle.grid_game.proofs.laws.moves_keep_the_size.Goals as goal

pub returns : goal.returns
returns c = moves_keep_the_size
