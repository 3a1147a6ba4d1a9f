use Rattle.std.proofs.Common.{◌≡◌, drop}
use Rattle.bddl_model.specs.Truth.{clause_true}
use Rattle.qbf_search.specs.Values.{assignment}
use Rattle.qbf_search.proofs.values.clause_holds.Given as goal

abbrev pub invariant-loop-literal : goal.invariant-loop-literal
invariant-loop-literal l = clause_true (assignment l.values) (drop l.literal-index l.clause) ≡ clause_true (assignment l.values) l.clause
