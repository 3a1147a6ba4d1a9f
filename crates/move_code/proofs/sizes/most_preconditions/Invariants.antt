use Rattle.std.proofs.Common.{◌≡◌, max, drop}
use Rattle.bddl_model.specs.Layout as spec
use Rattle.move_code.proofs.sizes.most_preconditions.Given as goal

abbrev pub invariant-loop-action : goal.invariant-loop-action
invariant-loop-action l = max l.most (spec.most_preconditions (drop l.action l.game.white_actions)) ≡ spec.most_preconditions l.game.white_actions
