use Rattle.std.proofs.Common.{◌-◌, length}
use Rattle.bddl_tests.proofs.evaluator.+value_from.Given as goal

abbrev pub decreases-value_from : goal.decreases-value_from
decreases-value_from l = length l.levels.now - l.number
