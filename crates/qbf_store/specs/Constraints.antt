-- What contracts see of a store: a form, and what was learned from it, by number.
use Rattle.std.specs.Prelude.{◌≡◌, ◌≢◌, ℕ, ◌==◌, Bool, false, List, [], Option, Some, None, is_some, IsSome, count_by, slice_get, slice_index_or}
use Rattle.std.specs.Option.{option_map_or}
use Rattle.bddl_model.specs.declared.formula.Kind.{Kind}
use Rattle.bddl_model.specs.declared.formula.Kind.TheVariants.{Clause}
use Rattle.bddl_model.specs.declared.formula.Lit.{Lit}
use Rattle.bddl_model.specs.Truth.{Formula}
use Rattle.bddl_model.specs.Forms.{has_literal}
use Rattle.bddl_model.specs.Fine.{IsFine}
use Rattle.qbf_store.specs.declared.constraint.ConstraintId.{ConstraintId}
use Rattle.qbf_store.specs.declared.constraint.ConstraintId.TheVariants.{Original, Learned}

pub record Constraint : Type 0 where
  pub kind : Kind
  pub literals : List Lit

-- the form, what stands under each learned number, and how many constraints may be learned at a time
pub record Constraints : Type 0 where
  pub form : Formula
  pub learned : List (Option Constraint)
  pub most : ℕ

-- nothing was learned from the form yet
abbrev pub of_form : Formula → ℕ → Constraints
of_form f most = record { form = f; learned = []; most = most }

abbrev pub clause_of : Option (List Lit) → Option Constraint
clause_of None = None
clause_of (Some ls) = Some (record { kind = Clause; literals = ls })

-- the constraint of a number that is live
abbrev pub constraint : Constraints → ConstraintId → Option Constraint
constraint s (Original n) = clause_of (slice_get s.form.clauses n)
constraint s (Learned n) = slice_index_or s.learned n None

abbrev pub IsLive : Constraints → ConstraintId → Type 0
IsLive s id = IsSome (constraint s id)

abbrev pub IsLearned : ConstraintId → Type 0
IsLearned (Original n) = ⊥
IsLearned (Learned n) = Unit {0}

-- how many learned constraints are live
abbrev pub learned_count : Constraints → ℕ
learned_count s = count_by is_some s.learned

-- each live constraint is fine for the form
abbrev pub AreFine : Constraints → Type 0
AreFine s = (id : ConstraintId) (c : Constraint) → constraint s id ≡ Some c → IsFine c.kind s.form c.literals

-- this stands under one number, and all else is as it was
pub record ChangesAt (old new : Constraints) (id : ConstraintId) (c : Option Constraint) : Type 0 where
  pub here : constraint new id ≡ c
  pub others : (other : ConstraintId) → other ≢ id → constraint new other ≡ constraint old other
  pub form : new.form ≡ old.form
  pub most : new.most ≡ old.most

-- ---- the constraints that hold a literal

abbrev pub holds : Constraints → Lit → ConstraintId → Bool
holds s l id = option_map_or (λ c. has_literal c.literals l) (constraint s id) false

abbrev pub same_id : ConstraintId → ConstraintId → Bool
same_id (Original n) (Original m) = n == m
same_id (Original n) (Learned m) = false
same_id (Learned n) (Original m) = false
same_id (Learned n) (Learned m) = n == m

-- how often a number stands in a list
abbrev pub times : ConstraintId → List ConstraintId → ℕ
times id ids = count_by (same_id id) ids
