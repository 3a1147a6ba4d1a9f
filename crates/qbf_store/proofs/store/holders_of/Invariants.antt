use Rattle.std.proofs.Common.{◌≡◌, ℕ, vec_len}
use Rattle.qbf_store.specs.Constraints.{of_form}
use Rattle.qbf_store.specs.Rows.{row_count}
use Rattle.qbf_store.specs.Kept.{RowsHold}
use Rattle.qbf_store.proofs.Originals.{first_clauses}
use Rattle.qbf_store.proofs.store.holders_of.Given as goal

abbrev pub invariant-loop-number : goal.invariant-loop-number
invariant-loop-number l = record {
  count : vec_len l.holders.rows ≡ row_count l.form.prefix;
  rows : (most : ℕ) → RowsHold (of_form (first_clauses l.number l.form) most) l.holders.rows.items;
}
