-- What a store keeps, and how contracts see it.
use Rattle.std.specs.Prelude.{◌≡◌, ◌≤◌, if◌then◌else◌, length, map, Option, Some, None}
use Rattle.bddl_model.specs.declared.formula.Lit.{Lit}
use Rattle.qbf_store.specs.declared.constraint.ConstraintId.{ConstraintId}
use Rattle.qbf_store.specs.declared.constraint.LearnedConstraint.{LearnedConstraint}
use Rattle.qbf_store.specs.declared.store.Store.TheInside.{Inside}
use Rattle.qbf_store.specs.Constraints.{Constraint, Constraints, AreFine, learned_count, holds, times}
use Rattle.qbf_store.specs.Rows.{Rows, row, row_of, row_count}

abbrev pub seen : Option LearnedConstraint → Option Constraint
seen None = None
seen (Some c) = Some (record { kind = c.kind; literals = c.literals.items })

abbrev pub shown : Inside → Constraints
shown s = record { form = s.form; learned = map seen s.learned.slots; most = s.most }

-- a literal's row has each constraint that holds the literal once, and no other
abbrev pub RowsHold : Constraints → Rows → Type 0
RowsHold s rows = (l : Lit) (id : ConstraintId) → times id (row rows (row_of s.form.prefix l)) ≡ (if holds s l id then 1 else 0)

pub record KeepsConstraints (s : Constraints) (rows : Rows) : Type 0 where
  pub fine : AreFine s
  pub few : learned_count s ≤ s.most
  pub count : length rows ≡ row_count s.form.prefix
  pub held : RowsHold s rows
