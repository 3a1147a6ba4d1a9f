-- Reading a formula text from left to right: what comes of it, as it is computed.
use Rattle.std.specs.Prelude.{ℕ, Bool, ◌==◌, if◌then◌else◌, List, [], ◌∷◌, ◌++◌, Option, None, Some, Result, Ok, Err}
use Rattle.bddl_model.specs.declared.formula.Quant.{Quant}
use Rattle.bddl_model.specs.declared.formula.Lit.{Lit}
use Rattle.bddl_model.specs.declared.fault.QFault.{QFault}
use Rattle.bddl_model.specs.Truth.{Formula}
use Rattle.bddl_model.specs.FormulaText.{FormulaText}
use Rattle.bddl_model.specs.FormulaWords.{Word, FormulaToken, quantifier, number, words_of, last_line, token_of}
use Rattle.bddl_model.specs.Qdimacs.{form_of}
use Rattle.bddl_model.specs.FormulaPlaces.{FormulaPlace, nothing, after_p, after_cnf, after_variables, in_set, in_clauses}
use Rattle.bddl_model.specs.FormulaFaults.{fault_at, end_fault}

-- ---- the place behind a word that can stand at a place

abbrev pub with_set : FormulaText → Quant → List ℕ → FormulaText
with_set t q vs = record t { sets = t.sets ++ record { quant = q; vars = vs } ∷ [] }

abbrev pub with_clause : FormulaText → List Lit → FormulaText
with_clause t ls = record t { clauses = t.clauses ++ ls ∷ [] }

abbrev pub lit_of : Bool → ℕ → Lit
lit_of negated v = record { var = record { 0 = v }; negated = negated }

abbrev pub behind_variable : FormulaText → Quant → List ℕ → ℕ → FormulaPlace
behind_variable t q vs v = if v == 0 then in_clauses (with_set t q vs) [] else in_set t q (vs ++ v ∷ [])

abbrev pub behind_literal : FormulaText → List Lit → Bool → ℕ → FormulaPlace
behind_literal t ls negated v = if v == 0 then in_clauses (with_clause t ls) [] else in_clauses t (ls ++ lit_of negated v ∷ [])

abbrev pub behind : FormulaPlace → FormulaToken → FormulaPlace
behind nothing w = after_p
behind after_p w = after_cnf
behind after_cnf (number negated v) = after_variables v
behind (after_variables v) (number negated c) = in_clauses (record { variables = v; said = c; sets = []; clauses = [] }) []
behind (in_set t q vs) (number negated v) = behind_variable t q vs v
behind (in_clauses t ls) (number negated v) = behind_literal t ls negated v
behind (in_clauses t ls) (quantifier q) = in_set t q []
behind p w = p

-- ---- all words

abbrev pub unless : Option QFault → FormulaPlace → Result FormulaPlace QFault
unless None p = Ok p
unless (Some f) p = Err f

abbrev pub step : FormulaPlace → Word → Result FormulaPlace QFault
step p w = unless (fault_at w.line p (token_of w.text)) (behind p (token_of w.text))

-- the place behind these words, or the first fault
abbrev pub steps : Result FormulaPlace QFault → List Word → Result FormulaPlace QFault
steps (Err f) ws = Err f
steps (Ok p) [] = Ok p
steps (Ok p) (w ∷ ws) = steps (step p w) ws

-- ---- the whole

-- what is read: the two numbers of the problem line, and the form
pub record FormulaRead : Type 0 where
  pub variables : ℕ
  pub clauses : ℕ
  pub form : Formula

abbrev pub nothing_read : FormulaRead
nothing_read = record { variables = 0; clauses = 0; form = record { prefix = []; clauses = [] } }

-- a text can end among its clauses alone
abbrev pub read_at : FormulaPlace → FormulaRead
read_at (in_clauses t ls) = record { variables = t.variables; clauses = t.said; form = form_of t }
read_at p = nothing_read

abbrev pub finished : Option QFault → FormulaPlace → Result FormulaRead QFault
finished None p = Ok (read_at p)
finished (Some f) p = Err f

abbrev pub ended : ℕ → Result FormulaPlace QFault → Result FormulaRead QFault
ended last (Err f) = Err f
ended last (Ok p) = finished (end_fault last p) p

abbrev pub reading : List ℕ → Result FormulaRead QFault
reading bytes = ended (last_line bytes) (steps (Ok nothing) (words_of bytes))
