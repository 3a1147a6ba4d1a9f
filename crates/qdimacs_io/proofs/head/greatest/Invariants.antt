use Rattle.std.proofs.Common.{◌≡◌, max, drop}
use Rattle.bddl_model.specs.FormulaText.{greatest_variable}
use Rattle.qdimacs_io.proofs.head.greatest.Given as goal

-- what is left decides
abbrev pub invariant-loop-bound : goal.invariant-loop-bound
invariant-loop-bound l = max l.greatest (greatest_variable (drop l.bound-index l.prefix)) ≡ greatest_variable l.prefix
