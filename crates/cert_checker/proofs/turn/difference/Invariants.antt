use Rattle.std.proofs.Common.{◌≡◌, ◌-◌, length, drop}
use Rattle.bddl_model.specs.Certificate.{difference}
use Rattle.cert_checker.proofs.turn.difference.Given as goal

-- what is left has the first difference
abbrev pub invariant-replies : goal.invariant-replies
invariant-replies l = difference l.at (drop l.at l.replies) (drop l.at l.moves) ≡ difference 0 l.replies l.moves

abbrev pub decreases-replies : goal.decreases-replies
decreases-replies l = length l.replies - l.at
