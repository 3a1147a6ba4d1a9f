use Rattle.std.proofs.Common.{◌≡◌, ℕ, ◌<◌, true, ◌||◌, drop, vec_len}
use Rattle.bddl_model.specs.Forms.{has_number, prefix_variables}
use Rattle.qbf_form.specs.TailMarks.{has_mark, has_unit}
use Rattle.qbf_form.proofs.marks.unit_marks.Given as goal

-- what is marked, or a clause that is left
abbrev pub invariant-loop-number : goal.invariant-loop-number
invariant-loop-number l = record {
  room : (v : ℕ) → has_number (prefix_variables l.form.prefix) v ≡ true → v < vec_len l.marks;
  marks : (v : ℕ) → (has_mark l.marks.items v || has_unit (drop l.number l.form.clauses) v) ≡ has_unit l.form.clauses v;
}
