-- What a search keeps of a tail: where it begins, and a row of literals for each of its variables.
use Rattle.std.specs.Prelude.{ℕ, suc, ◌≡◌, ◌+◌, ◌-◌, ◌<◌, ◌==◌, nat_lt, Bool, true, ◌&&◌, List, [], ◌∷◌, length, take, map, slice_index_or, Vec, if◌then◌else◌}
use Rattle.std.specs.List.{list_all}
use Rattle.std.proofs.Common.{Global}
use Rattle.bddl_model.specs.declared.formula.Lit.{Lit}
use Rattle.bddl_model.specs.Truth.{Formula, Assignment, literal_true}
use Rattle.bddl_model.specs.Forms.{prefix_variables}
use Rattle.bddl_model.specs.Bounds.{before_tail}
use Rattle.bddl_laws.specs.FollowingValues.{implied_literals}

abbrev pub row : Vec (Vec Lit Global) Global → ℕ → List Lit
row rows i = slice_index_or (map (λ r. r.items) rows.items) i []

abbrev pub variable_at : Formula → ℕ → ℕ
variable_at f place = slice_index_or (prefix_variables f.prefix) place 0

-- what stands before this place
abbrev pub variables_before : Formula → ℕ → List ℕ
variables_before f place = take place (prefix_variables f.prefix)

abbrev pub clause_at : Formula → ℕ → List Lit
clause_at f number = slice_index_or f.clauses number []

-- by the places of variables, which count from 1: the literal, where the other one of its clause is the negation of the variable at this place, and its own variable stands before
abbrev pub added_beside : (ℕ → ℕ) → ℕ → Lit → Lit → List Lit
added_beside place_of place other l = if other.negated && (place_of other.var.0 == suc place && nat_lt (place_of l.var.0) (place_of other.var.0)) then l ∷ [] else []

-- the literal, where the row is this one
abbrev pub added_at : ℕ → ℕ → Lit → List Lit
added_at place i l = if i == place then l ∷ [] else []

-- the tail begins behind so many variables, and the rows have what its variables imply
pub record TellsTail (f : Formula) (before : ℕ) (rows : Vec (Vec Lit Global) Global) : Type 0 where
  pub start : before ≡ before_tail f
  pub each : (i : ℕ) → before + i < length f.prefix → row rows i ≡ implied_literals f.clauses (variables_before f (before + i)) (variable_at f (before + i))

-- before the tail a variable is tried with true first; in it the value follows
abbrev pub first_value : ℕ → Vec (Vec Lit Global) Global → ℕ → Assignment → Bool
first_value before rows place a = if nat_lt place before then true else list_all (literal_true a) (row rows (place - before))
