use Rattle.std.proofs.Common.{refl}
use Rattle.io_edge.proofs.Added.{added_nothing, added_more, added_stops, added_last}
use Rattle.game_play.proofs.Showing.{made_is}
use Rattle.game_play.proofs.show.add_made.Goals as goal

pub returns-in_err-add-clause-text : goal.returns-in_err-add-clause-text
returns-in_err-add-clause-text g c = added_stops _ _ _ _ (made_is c.args.game.now c.args.side c.args.mv c.side_word.result.now c.side_word.ensures) _ _ _ _ _ _ (added_nothing _ _ _) _ c.from_residual.ensures.0 c.in_err-add.ensures.text

pub returns-clause-text : goal.returns-clause-text
returns-clause-text g c = added_last _ _ _ refl _ _ _ _ _ _ _ (added_more _ _ _ _ (made_is c.args.game.now c.args.side c.args.mv c.side_word.result.now c.side_word.ensures) _ _ _ _ _ _ (added_nothing _ _ _) c.in_ok-add.ensures.text) c.add_move.ensures.text
