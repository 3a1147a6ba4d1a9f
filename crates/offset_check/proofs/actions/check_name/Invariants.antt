use Rattle.std.proofs.Common.{◌≡◌, ◌+◌, drop}
use Rattle.bddl_model.specs.Check.{named_at}
use Rattle.offset_check.proofs.actions.check_name.Given as goal

abbrev pub invariant-loop-i : goal.invariant-loop-i
invariant-loop-i l = named_at (l.i + 1) (drop l.i l.earlier) l.name ≡ named_at 1 l.earlier l.name
