-- The places in a formula text where a word can stand, told by what stands before them.
use Rattle.std.specs.Prelude.{ℕ, ◌≡◌, ◌≤◌, List, [], ◌∷◌, ◌++◌, map}
use Rattle.bddl_model.specs.declared.formula.Quant.{Quant}
use Rattle.bddl_model.specs.declared.formula.Lit.{Lit}
use Rattle.bddl_model.specs.Forms.{AllInRange, AllApart, greatest_variables, literal_variables}
use Rattle.bddl_model.specs.FormulaText.{FormulaText}
use Rattle.bddl_model.specs.FormulaWords.{Word, FormulaToken, problem, cnf, quantifier, token_of}
use Rattle.bddl_model.specs.Qdimacs.{natural, literal, text_tokens, bound_variables, IsProper}

pub data FormulaPlace : Type 0 where
  nothing : FormulaPlace
  after_p : FormulaPlace
  after_cnf : FormulaPlace
  after_variables : ℕ → FormulaPlace
  -- in a quantifier set, of which these variables are read, behind whole sets
  in_set : FormulaText → Quant → List ℕ → FormulaPlace
  -- in a clause, of which these literals are read, behind whole sets and clauses; with none, where the next one would begin
  in_clauses : FormulaText → List Lit → FormulaPlace

-- what the words before it are
abbrev pub tokens_to : FormulaPlace → List FormulaToken
tokens_to nothing = []
tokens_to after_p = problem ∷ []
tokens_to after_cnf = problem ∷ cnf ∷ []
tokens_to (after_variables v) = problem ∷ cnf ∷ natural v ∷ []
tokens_to (in_set t q vs) = text_tokens t ++ quantifier q ∷ map natural vs
tokens_to (in_clauses t ls) = text_tokens t ++ map literal ls

-- what their numbers keep to; sets stand before all clauses
abbrev pub IsProperPlace : FormulaPlace → Type 0
IsProperPlace nothing = Unit {0}
IsProperPlace after_p = Unit {0}
IsProperPlace after_cnf = Unit {0}
IsProperPlace (after_variables v) = v ≤ greatest_variables
IsProperPlace (in_set t q vs) = IsProper t × (t.clauses ≡ []) × AllInRange t.variables vs × AllApart (bound_variables t.sets ++ vs)
IsProperPlace (in_clauses t ls) = IsProper t × AllInRange t.variables (literal_variables ls)

-- behind these words a text is at this place
pub record LeadsTo (front : List Word) (p : FormulaPlace) : Type 0 where
  pub words : map (λ w. token_of w.text) front ≡ tokens_to p
  pub proper : IsProperPlace p
