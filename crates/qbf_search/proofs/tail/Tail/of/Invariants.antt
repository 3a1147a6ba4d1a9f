use Rattle.std.proofs.Common.{◌≡◌, ℕ, ◌+◌, ◌<◌, ◌≤◌, ◌++◌, length, drop, vec_len}
use Rattle.bddl_laws.specs.FollowingValues.{implied_literals}
use Rattle.qbf_search.specs.Tails.{row, variables_before, variable_at}
use Rattle.qbf_search.proofs.tail.Tail.of.Given as goal

-- a row with what the clauses that are left add
abbrev pub invariant-loop-number : goal.invariant-loop-number
invariant-loop-number l = record {
  rows : length l.form.prefix ≤ l.before + vec_len l.implied;
  each : (i : ℕ) → l.before + i < length l.form.prefix
      → row l.implied i ++ implied_literals (drop l.number l.form.clauses) (variables_before l.form (l.before + i)) (variable_at l.form (l.before + i))
      ≡ implied_literals l.form.clauses (variables_before l.form (l.before + i)) (variable_at l.form (l.before + i));
}
