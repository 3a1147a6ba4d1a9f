use Rattle.std.proofs.Common.{[], sym, ◌∙◌, append-nil, arith}
use Rattle.game_play.specs.Plies.{taken}
use Rattle.game_play.proofs.Plying.{moves_are_of, said_taken, one_taken, left_after, left_still, white_goes, white_stops, err_is_no_end}
use Rattle.game_play.proofs.ply.white_ply.Goals as goal

pub show_moves-requires : goal.show_moves-requires
show_moves-requires g c = moves_are_of c.args.game.now c.args.board.now.marks c.as_slice.result.now (c.as_slice.ensures ∙ c.moves_into.ensures.moves)

pub returns-in_err-show_moves-clause-ply : goal.returns-in_err-show_moves-clause-ply
returns-in_err-show_moves-clause-ply g c = ([], sym (append-nil _), left_still _ _ (err_is_no_end _ c.from_residual.ensures.0), omega arith, white_stops c.args.game.now c.args.answers.now c.args.board.now.marks _ _ c.as_slice.result.now _ (c.as_slice.ensures ∙ c.moves_into.ensures.moves) c.from_residual.ensures.0 c.in_err-show_moves.ensures.text)

pub follow-requires-clause-actions : goal.follow-requires-clause-actions
follow-requires-clause-actions g c = moves_are_of c.args.game.now c.args.board.now.marks c.as_slice-3.result.now (c.as_slice-3.ensures ∙ c.moves_into.ensures.moves)

pub returns-clause-ply : goal.returns-clause-ply
returns-clause-ply g c = (
  taken c.ask-reply.result,
  c.ask-reply.ensures.said ∙ said_taken c.ask-reply.result _,
  left_after _ _ c.ask-reply.result _ c.follow.ensures.gone c.ask-reply.ensures.left,
  one_taken c.ask-reply.result,
  white_goes c.args.game.now c.args.answers.now c.args.board.now.marks _ _ _ c.as_slice.result.now (taken c.ask-reply.result) _ _ (c.as_slice.ensures ∙ c.moves_into.ensures.moves) c.in_ok-show_moves.ensures.text c.follow.ensures.ply,
)
