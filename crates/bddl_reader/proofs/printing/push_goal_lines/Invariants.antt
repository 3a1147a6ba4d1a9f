use Rattle.std.proofs.Common.{◌≡◌, ◌++◌, drop}
use Rattle.bddl_model.specs.Canonical.{goals_text}
use Rattle.bddl_reader.proofs.printing.push_goal_lines.Given as goal

abbrev pub invariant-loop-tests : goal.invariant-loop-tests
invariant-loop-tests l = l.text.items ++ goals_text (drop l.tests-index l.lines) ≡ l.fn.text.items ++ goals_text l.lines
