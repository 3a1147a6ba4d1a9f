-- The values of a tail's variables, told by those of the variables before.
use Rattle.std.specs.Prelude.{ℕ, Bool, ◌&&◌, List, [], ◌∷◌, ◌++◌, flat_map, if◌then◌else◌}
use Rattle.std.specs.List.{list_all}
use Rattle.bddl_model.specs.declared.formula.Bound.{Bound}
use Rattle.bddl_model.specs.declared.formula.Lit.{Lit}
use Rattle.bddl_model.specs.Truth.{Assignment, assign, negation, literal_true}
use Rattle.bddl_model.specs.Circuit.{positive}
use Rattle.bddl_model.specs.Forms.{has_number, same_literal}

-- the literal, where the other one of its clause is the variable's negation, and its own variable is among those before
abbrev pub implied_beside : List ℕ → ℕ → Lit → Lit → List Lit
implied_beside before g other l = if same_literal other (negation (positive g)) && has_number before l.var.0 then l ∷ [] else []

-- a clause of two literals says that one holds where the variable does
abbrev pub implied_by : List ℕ → ℕ → List Lit → List Lit
implied_by before g (l ∷ m ∷ []) = implied_beside before g l m ++ implied_beside before g m l
implied_by before g _ = []

-- the literals of variables before that these clauses say to hold where the variable does
abbrev pub implied_literals : List (List Lit) → List ℕ → ℕ → List Lit
implied_literals cs before g = flat_map (implied_by before g) cs

-- the variable holds exactly where all literals do that it implies
abbrev pub following_value : List (List Lit) → List ℕ → ℕ → Assignment → Bool
following_value cs before g a = list_all (literal_true a) (implied_literals cs before g)

-- the assignment with these variables' values, one after the other, each of which follows from those before
abbrev pub with_following : List (List Lit) → List ℕ → List Bound → Assignment → Assignment
with_following cs before [] a = a
with_following cs before (b ∷ rest) a = with_following cs (before ++ b.var.0 ∷ []) rest (assign b.var.0 (following_value cs before b.var.0 a) a)
