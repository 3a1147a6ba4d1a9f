use Rattle.std.proofs.Common.{◌≡◌}
use Rattle.solver_tests.proofs.trails.going_back_takes_greater_levels.Given as goal

abbrev pub invariant-script : goal.invariant-script
invariant-script g l = l.trail.prefix ≡ l.form-inside.prefix
