-- Rows of numbers, two for each place of a prefix: the constraints that hold its variable, and those that hold its negation.
use Rattle.std.specs.Prelude.{ℕ, zero, suc, ◌+◌, ◌*◌, ◌<◌, ◌&&◌, if◌then◌else◌, List, [], ◌∷◌, length, Vec, vec_len, vec_capacity}
use Rattle.std.proofs.Common.{Global}
use Rattle.bddl_model.specs.declared.formula.Bound.{Bound}
use Rattle.bddl_model.specs.declared.formula.Lit.{Lit}
use Rattle.bddl_model.specs.Forms.{prefix_variables, has_literal}
use Rattle.qbf_form.specs.Places.{place_in}
use Rattle.qbf_store.specs.declared.constraint.ConstraintId.{ConstraintId}
use Rattle.qbf_store.specs.Constraints.{same_id}

-- variables without a place have the first two rows
abbrev pub row_of : List Bound → Lit → ℕ
row_of bounds l = 2 * place_in (prefix_variables bounds) l.var.0 + (if l.negated then 1 else 0)

abbrev pub row_count : List Bound → ℕ
row_count bounds = 2 * (length bounds + 1)

abbrev pub Rows : Type 0
Rows = List (Vec ConstraintId Global)

abbrev pub row : Rows → ℕ → List ConstraintId
row [] n = []
row (r ∷ rows) zero = r.items
row (r ∷ rows) (suc n) = row rows n

-- one number more fits into a row without memory
abbrev pub HasRoom : Rows → ℕ → Type 0
HasRoom [] n = ⊥
HasRoom (r ∷ rows) zero = vec_len r < vec_capacity r
HasRoom (r ∷ rows) (suc n) = HasRoom rows n

-- how often a constraint of these literals puts its number into a literal's row: once, if it holds the literal
abbrev pub entered : List Lit → ConstraintId → Lit → ConstraintId → ℕ
entered ls id l x = if has_literal ls l && same_id x id then 1 else 0
