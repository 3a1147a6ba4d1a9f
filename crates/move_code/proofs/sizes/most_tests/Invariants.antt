use Rattle.std.proofs.Common.{◌≡◌, max, drop}
use Rattle.bddl_model.specs.Layout as spec
use Rattle.move_code.proofs.sizes.most_tests.Given as goal

abbrev pub invariant-loop-number : goal.invariant-loop-number
invariant-loop-number l = max l.most (spec.most_tests (drop l.number l.game.white_lines)) ≡ spec.most_tests l.game.white_lines
