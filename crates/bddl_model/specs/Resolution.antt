-- Resolution of two constraints on a variable, and reduction of one.
use Rattle.std.specs.Prelude.{◌≡◌, ℕ, Bool, true, false, not, ◌==◌, List, ◌++◌, filter}
use Rattle.bddl_model.specs.declared.formula.Bound.{Bound}
use Rattle.bddl_model.specs.declared.formula.Lit.{Lit}
use Rattle.bddl_model.specs.Truth.{negation}
use Rattle.bddl_model.specs.Forms.{has_literal}
use Rattle.bddl_model.specs.Fine.{among_first, clause_depth, cube_depth}

-- no literal stands there beside its opposite
abbrev pub NoOpposites : List Lit → Type 0
NoOpposites ls = (l : Lit) → has_literal ls l ≡ true → has_literal ls (negation l) ≡ false

-- each literal of the variable has this sign
abbrev pub OneSign : ℕ → Bool → List Lit → Type 0
OneSign v negated ls = (l : Lit) → has_literal ls l ≡ true → l.var.0 ≡ v → l.negated ≡ negated

-- the literals of other variables
abbrev pub without : ℕ → List Lit → List Lit
without v ls = filter (λ l. not (l.var.0 == v)) ls

-- all literals of both, those of both once
abbrev pub joined : List Lit → List Lit → List Lit
joined ls ms = ls ++ filter (λ m. not (has_literal ls m)) ms

abbrev pub resolvent : ℕ → List Lit → List Lit → List Lit
resolvent v ls ms = joined (without v ls) (without v ms)

-- what is left of a clause without its universal literals behind the last existential one, those of the variables that are kept excepted
abbrev pub reduced_clause : ℕ → List Bound → List Lit → List Lit
reduced_clause kept prefix c = among_first (clause_depth kept prefix c) prefix c

-- and of a cube without its existential literals behind the last universal one
abbrev pub reduced_cube : ℕ → List Bound → List Lit → List Lit
reduced_cube kept prefix k = among_first (cube_depth kept prefix k) prefix k
