use Rattle.std.proofs.Common.{◌≡◌, ◌+◌, ◌*◌}
use Rattle.bddl_model.specs.Trial as trial
use Rattle.bddl_make.proofs.large.stones.Given as goal

abbrev pub invariant-loop-place : goal.invariant-loop-place
invariant-loop-place l = (l.init ≡ trial.stones l.fn.draws.number l._place) × (l.draws.number ≡ l.fn.draws.number) × (l.draws.count ≡ 3 + 3 * l._place)
