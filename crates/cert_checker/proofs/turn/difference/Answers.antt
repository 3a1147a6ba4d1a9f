use Rattle.std.proofs.Common.{arith}
use Rattle.cert_checker.proofs.Replies.{short_at, long_at}
use Rattle.cert_checker.proofs.turn.difference.Goals as goal

pub returns-then-at-moves : goal.returns-then-at-moves
returns-then-at-moves c = short_at c.replies.at c.args.replies.now c.args.moves.now _ (omega arith) (omega arith) c.replies.invariant

pub returns-then-at-moves-2 : goal.returns-then-at-moves-2
returns-then-at-moves-2 c = long_at c.replies.at c.args.replies.now c.args.moves.now _ (omega arith) (omega arith) c.replies.invariant
