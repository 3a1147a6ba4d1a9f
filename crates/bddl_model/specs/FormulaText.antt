-- The one text that is written for a formula: lines of words.
use Rattle.std.specs.Prelude.{ℕ, Bool, true, false, max, if◌then◌else◌, List, [], ◌∷◌, ◌++◌, length, map, flat_map, codes}
use Rattle.std.specs.Fmt.{decimal}
use Rattle.bddl_model.specs.declared.formula.Quant.{Quant}
use Rattle.bddl_model.specs.declared.formula.Quant.TheVariants.{Exists, All}
use Rattle.bddl_model.specs.declared.formula.Bound.{Bound}
use Rattle.bddl_model.specs.declared.formula.Lit.{Lit}
use Rattle.bddl_model.specs.Truth.{Formula}

-- a quantifier set
pub record QuantSet : Type 0 where
  pub quant : Quant
  pub vars : List ℕ

-- what a text says: the two numbers of its problem line, its quantifier sets, its clauses
pub record FormulaText : Type 0 where
  pub variables : ℕ
  pub said : ℕ
  pub sets : List QuantSet
  pub clauses : List (List Lit)

-- ---- a text as lines

-- words with a space between
abbrev pub joined : List (List ℕ) → List ℕ
joined [] = []
joined (w ∷ []) = w
joined (w ∷ v ∷ ws) = w ++ 32 ∷ joined (v ∷ ws)

abbrev pub line_text : List (List ℕ) → List ℕ
line_text ws = joined ws ++ 10 ∷ []

abbrev pub letter_of : Quant → List ℕ
letter_of Exists = codes "e"
letter_of All = codes "a"

abbrev pub literal_text : Lit → List ℕ
literal_text l = if l.negated then 45 ∷ decimal l.var.0 else decimal l.var.0

abbrev pub head_line : ℕ → ℕ → List (List ℕ)
head_line variables clauses = codes "p" ∷ codes "cnf" ∷ decimal variables ∷ decimal clauses ∷ []

abbrev pub set_line : QuantSet → List (List ℕ)
set_line s = letter_of s.quant ∷ map decimal s.vars ++ codes "0" ∷ []

abbrev pub clause_line : List Lit → List (List ℕ)
clause_line ls = map literal_text ls ++ codes "0" ∷ []

-- ---- a formula as a text

abbrev pub same_quant : Quant → Quant → Bool
same_quant Exists Exists = true
same_quant All All = true
same_quant _ _ = false

-- a variable joins the set before which it stands, if that has its quantifier
abbrev pub onto_sets : Bound → List QuantSet → List QuantSet
onto_sets b [] = record { quant = b.quant; vars = b.var.0 ∷ [] } ∷ []
onto_sets b (s ∷ sets) =
    if same_quant b.quant s.quant then record { quant = s.quant; vars = b.var.0 ∷ s.vars } ∷ sets
    else record { quant = b.quant; vars = b.var.0 ∷ [] } ∷ s ∷ sets

-- a set for each block: neighbours of one quantifier
abbrev pub sets_of : List Bound → List QuantSet
sets_of [] = []
sets_of (b ∷ bs) = onto_sets b (sets_of bs)

abbrev pub greatest_variable : List Bound → ℕ
greatest_variable [] = 0
greatest_variable (b ∷ bs) = max b.var.0 (greatest_variable bs)

-- the problem line and a line for each block, before so many clauses
abbrev pub head_text : List Bound → ℕ → List ℕ
head_text prefix clauses = line_text (head_line (greatest_variable prefix) clauses) ++ flat_map (λ s. line_text (set_line s)) (sets_of prefix)

abbrev pub clause_text : List Lit → List ℕ
clause_text ls = line_text (clause_line ls)

-- one set or clause a line, and no comment
abbrev pub qtext : Formula → List ℕ
qtext f = head_text f.prefix (length f.clauses) ++ flat_map clause_text f.clauses

-- what it says
abbrev pub written_text : Formula → FormulaText
written_text f = record { variables = greatest_variable f.prefix; said = length f.clauses; sets = sets_of f.prefix; clauses = f.clauses }
