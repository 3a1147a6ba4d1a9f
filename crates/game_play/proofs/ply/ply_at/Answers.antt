use Rattle.game_play.proofs.Plying.{at_goal, at_black, at_white}
use Rattle.game_play.proofs.ply.ply_at.Goals as goal

pub returns-in-Goal-clause-ply : goal.returns-in-Goal-clause-ply
returns-in-Goal-clause-ply g c = at_goal c.args.game.now c.args.made c.args.node.now c.args.board.now.marks c.args.board.now.marks _ _ c.goal_ply.result _ _ c.in-Goal.is c.goal_ply.ensures.gone (c.goal_ply.ensures.ply c.args.game.now c.args.board.now.marks)

pub returns-in-Black-clause-ply : goal.returns-in-Black-clause-ply
returns-in-Black-clause-ply g c = at_black c.args.game.now c.args.made c.args.node.now c.args.board.now.marks _ _ _ c.black_ply.result _ _ c.in-Black.mv _ c.in-Black.is c.black_ply.ensures.gone (c.black_ply.ensures.ply c.args.made)

pub returns-in-White-clause-ply : goal.returns-in-White-clause-ply
returns-in-White-clause-ply g c = at_white c.args.game.now c.args.made c.args.node.now c.args.board.now.marks _ _ _ c.white_ply.result _ _ _ _ c.in-White.replies c.as_slice.result.now c.in-White.is c.as_slice.ensures c.white_ply.ensures.ply
