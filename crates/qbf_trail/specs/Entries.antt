-- What contracts see of a trail: a prefix, the literals that were put in order, and the level.
use Rattle.std.specs.Prelude.{◌≡◌, ℕ, suc, ◌==◌, nat_le, Bool, false, not, if◌then◌else◌, List, [], ◌∷◌, ◌++◌, map, filter, Option, Some, None}
use Rattle.std.specs.List.{list_any}
use Rattle.bddl_model.specs.declared.formula.Bound.{Bound}
use Rattle.bddl_model.specs.declared.formula.Lit.{Lit}
use Rattle.bddl_model.specs.Forms.{prefix_variables, AllAmong, AllApart}
use Rattle.qbf_store.specs.declared.constraint.ConstraintId.{ConstraintId}
use Rattle.qbf_store.specs.Constraints.{same_id}
use Rattle.qbf_trail.specs.declared.entry.Cause.{Cause}
use Rattle.qbf_trail.specs.declared.entry.Cause.TheVariants.{Decision, By}
use Rattle.qbf_trail.specs.declared.entry.Entry.{Entry}

pub record Entries : Type 0 where
  pub prefix : List Bound
  pub entries : List Entry
  pub level : ℕ

abbrev pub entry_variables : List Entry → List ℕ
entry_variables entries = map (λ e. e.literal.var.0) entries

-- the value of a variable of which a literal was put
abbrev pub value_in : List Entry → ℕ → Option Bool
value_in [] v = None
value_in (e ∷ entries) v = if e.literal.var.0 == v then Some (not e.literal.negated) else value_in entries v

-- ---- causes

abbrev pub is_by : ConstraintId → Cause → Bool
is_by id Decision = false
is_by id (By other) = same_id other id

-- some literal was put by this constraint
abbrev pub has_cause : List Entry → ConstraintId → Bool
has_cause entries id = list_any (λ e. is_by id e.cause) entries

-- ---- levels

-- the level behind an entry of this cause, where it was this one before
abbrev pub raised : ℕ → Cause → ℕ
raised level Decision = suc level
raised level (By id) = level

-- each entry has the level behind it, where it was this one before the first
abbrev pub HaveLevels : ℕ → List Entry → Type 0
HaveLevels level [] = Unit {0}
HaveLevels level (e ∷ entries) = (e.level.0 ≡ raised level e.cause) × HaveLevels e.level.0 entries

-- the level behind the last one
abbrev pub last_level : ℕ → List Entry → ℕ
last_level level [] = level
last_level level (e ∷ entries) = last_level e.level.0 entries

-- those of no greater level
abbrev pub up_to : ℕ → List Entry → List Entry
up_to level entries = filter (λ e. nat_le e.level.0 level) entries

-- ---- the trail

-- its variables are bound, none was put twice, and a decision raises the level by one
pub record AreEntries (t : Entries) : Type 0 where
  pub bound : AllAmong (prefix_variables t.prefix) (entry_variables t.entries)
  pub once : AllApart (entry_variables t.entries)
  pub levels : HaveLevels 0 t.entries
  pub last : t.level ≡ last_level 0 t.entries

-- with one literal more
abbrev pub with_literal : Entries → Lit → Cause → Entries
with_literal t l cause = record t {
  entries = t.entries ++ record { literal = l; cause = cause; level = record { 0 = raised t.level cause } } ∷ [];
  level = raised t.level cause;
}
