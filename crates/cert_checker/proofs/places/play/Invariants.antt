use Rattle.std.proofs.Common.{◌≡◌, drop}
use Rattle.bddl_model.specs.Certificate.{start}
use Rattle.bddl_model.specs.Limits.{IsBoardOf}
use Rattle.cert_checker.specs.Places.{place_at, played, MayPlay}
use Rattle.cert_checker.proofs.places.play.Given as goal

-- the moves that are left may be made, and lead to the same place
abbrev pub invariant-loop-mv : goal.invariant-loop-mv
invariant-loop-mv l = record {
  size : IsBoardOf l.setup.game l.board;
  may : MayPlay l.setup.game (place_at l.turn l.board.marks) (drop l.mv-index l.moves);
  place : played l.setup.game (place_at l.turn l.board.marks) (drop l.mv-index l.moves) ≡ played l.setup.game (start l.setup) l.moves;
}
