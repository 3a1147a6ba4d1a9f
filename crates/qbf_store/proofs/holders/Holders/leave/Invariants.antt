use Rattle.std.proofs.Common.{◌≡◌, ◌-◌, drop, vec_len}
use Rattle.bddl_model.specs.declared.formula.Lit.{Lit}
use Rattle.bddl_model.specs.Forms.{FitsPrefix}
use Rattle.qbf_store.specs.declared.constraint.ConstraintId.{ConstraintId}
use Rattle.qbf_store.specs.Constraints.{times}
use Rattle.qbf_store.specs.Rows.{row, row_of, entered}
use Rattle.qbf_store.proofs.holders.Holders.leave.Given as goal

-- what is left leaves the rest
abbrev pub invariant-loop-literal : goal.invariant-loop-literal
invariant-loop-literal l = record {
  count : vec_len l.self.rows ≡ vec_len l.initial.self.rows;
  fits : FitsPrefix l.prefix (drop l.literal-index l.literals);
  rows : (m : Lit) (x : ConstraintId) → times x (row l.self.rows.items (row_of l.prefix m)) - entered (drop l.literal-index l.literals) l.id m x
      ≡ times x (row l.initial.self.rows.items (row_of l.prefix m)) - entered l.literals l.id m x;
}
