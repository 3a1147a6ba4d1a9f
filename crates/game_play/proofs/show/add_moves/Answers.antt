use Rattle.std.proofs.Common.{refl}
use Rattle.io_edge.proofs.Added.{added_nothing, added_more, added_stops, added_last}
use Rattle.game_play.proofs.Showing.{moves_is}
use Rattle.game_play.proofs.show.add_moves.Goals as goal

pub returns-in_err-add_count-clause-text : goal.returns-in_err-add_count-clause-text
returns-in_err-add_count-clause-text g c = added_stops _ _ _ _ (moves_is c.args.game.now c.args.moves.now) _ _ _ _ _ _ (added_nothing _ _ _) _ c.from_residual.ensures.0 c.in_err-add_count.ensures.text

pub returns-clause-text : goal.returns-clause-text
returns-clause-text g c = added_last _ _ _ refl _ _ _ _ _ _ _ (added_more _ _ _ _ (moves_is c.args.game.now c.args.moves.now) _ _ _ _ _ _ (added_nothing _ _ _) c.in_ok-add_count.ensures.text) c.add_list.ensures.text
