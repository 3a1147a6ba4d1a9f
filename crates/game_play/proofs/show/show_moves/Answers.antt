use Rattle.io_edge.proofs.Steps.{adds_finish}
use Rattle.game_play.proofs.show.show_moves.Goals as goal

pub returns-clause-text : goal.returns-clause-text
returns-clause-text g c = adds_finish _ _ _ _ _ _ (rw c.new-buffer.ensures at c.in_ok-add_moves.ensures.text) c.finish.ensures.text
