use Rattle.std.proofs.Common.{refl}
use Rattle.io_edge.proofs.Added.{added_nothing, added_more, added_stops, added_last}
use Rattle.game_play.proofs.Showing.{board_is}
use Rattle.game_play.proofs.show.add_board.Goals as goal

pub returns-in_err-add-clause-text : goal.returns-in_err-add-clause-text
returns-in_err-add-clause-text g c = added_stops _ _ _ _ (board_is c.args.game.now c.args.board.now.marks c.args.board.now.marks c.args.game.now.width c.args.game.now.height refl refl refl) _ _ _ _ _ _ (added_nothing _ _ _) _ c.from_residual.ensures.0 c.in_err-add.ensures.text

pub returns-clause-text : goal.returns-clause-text
returns-clause-text g c = added_last _ _ _ refl _ _ _ _ _ _ _ (added_more _ _ _ _ (board_is c.args.game.now c.args.board.now.marks c.marks.result.now c.width.result c.height.result c.width.ensures.value c.height.ensures.value c.marks.ensures) _ _ _ _ _ _ (added_nothing _ _ _) c.in_ok-add.ensures.text) c.add_rows.ensures.text
