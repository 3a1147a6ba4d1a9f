use Rattle.bddl_laws.proofs.LinesOfPlay.{line_is_played}
use Rattle.bddl_laws.proofs.exactness.lines_of_play_are_played.Goals as goal

pub returns : goal.returns
returns c = line_is_played
