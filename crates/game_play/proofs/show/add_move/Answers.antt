use Rattle.std.proofs.Common.{rules}
use Rattle.io_edge.proofs.Added.{adds_same}
use Rattle.game_play.proofs.Showing.{move_is}
use Rattle.game_play.proofs.show.add_move.Goals as goal

pub returns-clause-text : goal.returns-clause-text
returns-clause-text g c = adds_same _ _ (move_is c.args.game.now c.args.side c.args.mv) _ _ _ _ _ (search rules)
