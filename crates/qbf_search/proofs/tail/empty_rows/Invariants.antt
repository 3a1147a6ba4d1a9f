use Rattle.std.proofs.Common.{◌≡◌, ℕ, [], vec_len}
use Rattle.qbf_search.specs.Tails.{row}
use Rattle.qbf_search.proofs.tail.empty_rows.Given as goal

abbrev pub invariant-loop : goal.invariant-loop
invariant-loop l = record {
  len : vec_len l.rows ≡ l.counter;
  empty : (i : ℕ) → row l.rows i ≡ [];
}
