use Rattle.std.proofs.Common.{◌≡◌, drop}
use Rattle.bddl_model.specs.Truth.{clauses_true}
use Rattle.qbf_search.specs.Values.{assignment}
use Rattle.qbf_search.proofs.values.clauses_hold.Given as goal

abbrev pub invariant-loop-number : goal.invariant-loop-number
invariant-loop-number l = clauses_true (drop l.number l.form.clauses) (assignment l.values) ≡ clauses_true l.form.clauses (assignment l.values)
