use Rattle.bddl_model.proofs.Moves.{legal_moves_are_listed}
use Rattle.grid_game.proofs.laws.legal_moves_are_listed.Goals as goal

pub returns : goal.returns
returns c = legal_moves_are_listed
