use Rattle.std.proofs.Common.{ap}
use Rattle.bddl_model.specs.Board.{SizedBoard}
use Rattle.game_play.proofs.Plying.{black_goes, black_stops}
use Rattle.game_play.proofs.ply.black_ply.Goals as goal

pub returns-in_err-show_made-clause-ply : goal.returns-in_err-show_made-clause-ply
returns-in_err-show_made-clause-ply g c = black_stops c.args.game.now c.args.mv (record { 0 = c.args.next }) c.args.board.now.marks _ _ _ c.from_residual.ensures.0 c.in_err-show_made.ensures.text

pub returns-clause-ply : goal.returns-clause-ply
returns-clause-ply g c = black_goes c.args.game.now c.args.mv (record { 0 = c.args.next }) c.args.board.now.marks _ _ _ (ap (λ (b : SizedBoard). b.marks) c.apply.ensures) c.in_ok-show_made.ensures.text
