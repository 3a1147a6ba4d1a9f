use Rattle.std.proofs.Common.{ℕ, ◌≡◌, ◌≤◌, ◌+◌, List, [], ◌∷◌, ◌++◌, length, length-append, arith}
use Rattle.game_play.proofs.players.tests.answer.Goals as goal

one_more : (old new : List ℕ) (n : ℕ) → new ≡ old ++ n ∷ [] → length new ≤ length old + 1
one_more old new n e = rw (e, length-append) (omega arith)

pub returns-in-Choice : goal.returns-in-Choice
returns-in-Choice g c = one_more _ _ c.in-Choice.number c.in-Choice.ensures
