use Rattle.std.proofs.Common.{◌≡◌, take}
use Rattle.bddl_model.specs.Circuit.{circuit_clauses}
use Rattle.tseitin.proofs.clauses.to_clauses.Given as goal

abbrev pub invariant-loop-number : goal.invariant-loop-number
invariant-loop-number l = record {
  prefix : l.form.prefix ≡ l.fn.prefix;
  clauses : l.form.clauses ≡ take l.number (circuit_clauses l.dag l.out);
}
