-- Fine clauses and cubes: what a solver may keep beside a form without changing its value.
use Rattle.std.specs.Prelude.{◌≡◌, ℕ, zero, suc, ◌≤◌, max, Bool, true, false, ◌&&◌, List, [], ◌∷◌, length, take, drop, filter, if◌then◌else◌}
use Rattle.std.specs.List.{list_all}
use Rattle.bddl_model.specs.declared.formula.Quant.{Quant}
use Rattle.bddl_model.specs.declared.formula.Quant.TheVariants.{Exists, All}
use Rattle.bddl_model.specs.declared.formula.Bound.{Bound}
use Rattle.bddl_model.specs.declared.formula.Lit.{Lit}
use Rattle.bddl_model.specs.declared.formula.Kind.{Kind}
use Rattle.bddl_model.specs.declared.formula.Kind.TheVariants.{Clause, Cube}
use Rattle.bddl_model.specs.Truth.{Assignment, Formula, assign, value, literal_true, clause_true, clauses_true}
use Rattle.bddl_model.specs.Forms.{has_number, prefix_variables, literal_variables, FitsPrefix}
use Rattle.bddl_model.specs.FormulaText.{same_quant}

-- each literal is true
abbrev pub cube_true : Assignment → List Lit → Bool
cube_true a k = list_all (literal_true a) k

-- ---- where a constraint's variables stand

-- the length of the first block where it has this quantifier, else 0
abbrev pub first_block : Quant → List Bound → ℕ
first_block q [] = 0
first_block q (b ∷ rest) = if same_quant b.quant q then suc (first_block q rest) else 0

-- the assignment with these values of the first variables of a prefix, in its order
abbrev pub with_first : List Bound → List Bool → Assignment → Assignment
with_first [] values a = a
with_first (b ∷ rest) [] a = a
with_first (b ∷ rest) (v ∷ values) a = with_first rest values (assign b.var.0 v a)

-- the value behind the first variables, which have these values
abbrev pub value_under : List Bound → (Assignment → Bool) → List Bool → Assignment → Bool
value_under prefix matrix values a = value (drop (length values) prefix) matrix (with_first prefix values a)

-- the number of variables up to the last one here or further in, where there is one
abbrev pub up_to : ℕ → Bool → ℕ
up_to zero false = 0
up_to zero true = 1
up_to (suc n) here = suc (suc n)

-- the number of variables up to the last one of this quantifier that the literals name, that one included
abbrev pub last_named : Quant → List Bound → List Lit → ℕ
last_named q [] ls = 0
last_named q (b ∷ rest) ls = up_to (last_named q rest ls) (same_quant b.quant q && has_number (literal_variables ls) b.var.0)

-- the literals whose variables are among the first k
abbrev pub among_first : ℕ → List Bound → List Lit → List Lit
among_first k prefix ls = filter (λ l. has_number (prefix_variables (take k prefix)) l.var.0) ls

-- ---- clauses

-- The first so many variables are kept: reduction drops no literal of theirs. A solver keeps a first block that is not the
-- constraint's own, of which it then tells the values; a log of steps keeps none.
abbrev pub clause_depth : ℕ → List Bound → List Lit → ℕ
clause_depth kept prefix c = max kept (last_named Exists prefix c)

-- No values of the first variables make each of the clause's literals among them false, while the value of the test is true behind those that are kept and from there on.
pub record IsFineClause (kept : ℕ) (prefix : List Bound) (matrix : Assignment → Bool) (c : List Lit) : Type 0 where
  pub fits : FitsPrefix prefix c
  pub unbroken : (a : Assignment)
      → ((j : ℕ) → kept ≤ j → j ≤ clause_depth kept prefix c → value (drop j prefix) matrix a ≡ true)
      → clause_true a (among_first (clause_depth kept prefix c) prefix c) ≡ false → ⊥

-- ---- cubes

abbrev pub cube_depth : ℕ → List Bound → List Lit → ℕ
cube_depth kept prefix k = max kept (last_named All prefix k)

-- No values of the first variables make each of the cube's literals among them true, while the value of the test is false behind those that are kept and from there on.
pub record IsFineCube (kept : ℕ) (prefix : List Bound) (matrix : Assignment → Bool) (k : List Lit) : Type 0 where
  pub fits : FitsPrefix prefix k
  pub unbroken : (a : Assignment)
      → ((j : ℕ) → kept ≤ j → j ≤ cube_depth kept prefix k → value (drop j prefix) matrix a ≡ false)
      → cube_true a (among_first (cube_depth kept prefix k) prefix k) ≡ true → ⊥

-- ---- of a form

-- where so many variables are kept
abbrev pub FineClauseOf : ℕ → Formula → List Lit → Type 0
FineClauseOf kept f c = IsFineClause kept f.prefix (clauses_true f.clauses) c

abbrev pub FineCubeOf : ℕ → Formula → List Lit → Type 0
FineCubeOf kept f k = IsFineCube kept f.prefix (clauses_true f.clauses) k

-- ---- of either kind

-- a constraint that a solver may keep: reduction drops no literal of a first block that isn't the constraint's own
abbrev pub IsFine : Kind → Formula → List Lit → Type 0
IsFine Clause f c = FineClauseOf (first_block All f.prefix) f c
IsFine Cube f k = FineCubeOf (first_block Exists f.prefix) f k
