use Rattle.std.proofs.Common.{◌≡◌, ◌+◌, ◌*◌, ◌&&◌}
use Rattle.std.specs.Prelude.{nat_lt}
use Rattle.bddl_model.specs.Truth.{Assignment}
use Rattle.bddl_model.specs.Circuit.{IsWire, holds}
use Rattle.bddl_model.specs.Growth.{Grows}
use Rattle.bddl_model.specs.Codes.{in_range}
use Rattle.move_code.specs.CodeWords.{spelled, action_gates}
use Rattle.move_code.proofs.range.some_action.Given as goal

-- the actions before this one were tested
abbrev pub invariant-actions : goal.invariant-actions
invariant-actions l = record {
  wire : IsWire l.dag l.known;
  grows : Grows (l.action * (action_gates l.words + 1)) l.initial.dag l.dag;
  value : (a : Assignment) → holds l.dag l.known a ≡ (nat_lt (spelled l.initial.dag l.words a).action l.action && in_range l.game l.side (spelled l.initial.dag l.words a));
}
