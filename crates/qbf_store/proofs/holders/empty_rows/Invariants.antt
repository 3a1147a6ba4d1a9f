use Rattle.std.proofs.Common.{◌≡◌, ℕ, ◌-◌, ◌≤◌, [], vec_len, vec_capacity}
use Rattle.qbf_store.specs.Rows.{row}
use Rattle.qbf_store.proofs.holders.empty_rows.Given as goal

abbrev pub invariant-rows : goal.invariant-rows
invariant-rows l = record {
  room : vec_capacity l.rows ≡ l.count;
  count : vec_len l.rows ≤ l.count;
  empty : (n : ℕ) → row l.rows.items n ≡ [];
}

abbrev pub decreases-rows : goal.decreases-rows
decreases-rows l = l.count - vec_len l.rows
