use Rattle.std.proofs.Common.{◌≡◌, ◌⊎◌, ℕ, true, drop, vec_len}
use Rattle.bddl_model.specs.declared.formula.Lit.{Lit}
use Rattle.bddl_model.specs.Forms.{has_literal}
use Rattle.qbf_store.specs.Rows.{row, row_of, HasRoom}
use Rattle.qbf_store.proofs.holders.Holders.reserve.Given as goal

-- there is room, or the literal is among those that are left
abbrev pub invariant-loop-literal : goal.invariant-loop-literal
invariant-loop-literal l = record {
  rows : (n : ℕ) → row l.self.rows.items n ≡ row l.initial.self.rows.items n;
  count : vec_len l.self.rows ≡ vec_len l.initial.self.rows;
  room : (m : Lit) → has_literal l.literals m ≡ true → (has_literal (drop l.literal-index l.literals) m ≡ true) ⊎ HasRoom l.self.rows.items (row_of l.prefix m);
}
