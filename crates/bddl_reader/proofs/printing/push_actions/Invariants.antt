use Rattle.std.proofs.Common.{◌≡◌, ◌++◌, drop}
use Rattle.std.specs.Prelude.{flat_map}
use Rattle.bddl_model.specs.Canonical.{action_text}
use Rattle.bddl_reader.proofs.printing.push_actions.Given as goal

abbrev pub invariant-loop-action : goal.invariant-loop-action
invariant-loop-action l = l.text.items ++ flat_map action_text (drop l.action-index l.actions) ≡ l.fn.text.items ++ flat_map action_text l.actions
