-- What a QDIMACS text says, and which form it has.
use Rattle.std.specs.Prelude.{ℕ, ◌≡◌, ◌≤◌, Bool, false, not, ◌&&◌, ◌||◌, if◌then◌else◌, List, [], ◌∷◌, ◌++◌, length, map, filter, flat_map}
use Rattle.std.specs.List.{range_with_len}
use Rattle.bddl_model.specs.declared.formula.Quant.{Quant}
use Rattle.bddl_model.specs.declared.formula.Quant.TheVariants.{Exists}
use Rattle.bddl_model.specs.declared.formula.Bound.{Bound}
use Rattle.bddl_model.specs.declared.formula.Lit.{Lit}
use Rattle.bddl_model.specs.Truth.{Formula, negation}
use Rattle.bddl_model.specs.Forms.{has_number, has_literal, AllInRange, AllApart, greatest_variables, literal_variables}
use Rattle.bddl_model.specs.FormulaText.{QuantSet, FormulaText}
use Rattle.bddl_model.specs.FormulaWords.{words_of, FormulaToken, problem, cnf, quantifier, number, token_of}

-- ---- the grammar

abbrev pub natural : ℕ → FormulaToken
natural n = number false n

abbrev pub literal : Lit → FormulaToken
literal l = number l.negated l.var.0

abbrev pub set_tokens : QuantSet → List FormulaToken
set_tokens s = quantifier s.quant ∷ map natural s.vars ++ natural 0 ∷ []

abbrev pub clause_tokens : List Lit → List FormulaToken
clause_tokens ls = map literal ls ++ natural 0 ∷ []

abbrev pub text_tokens : FormulaText → List FormulaToken
text_tokens t = problem ∷ cnf ∷ natural t.variables ∷ natural t.said ∷ flat_map set_tokens t.sets ++ flat_map clause_tokens t.clauses

-- ---- what its numbers keep to

abbrev pub bound_variables : List QuantSet → List ℕ
bound_variables sets = flat_map (λ s. s.vars) sets

pub record IsProper (t : FormulaText) : Type 0 where
  pub variables : t.variables ≤ greatest_variables
  pub bound_range : AllInRange t.variables (bound_variables t.sets)
  pub bound_apart : AllApart (bound_variables t.sets)
  pub literals_range : AllInRange t.variables (flat_map literal_variables t.clauses)

-- the words of a text say this
pub record Says (bytes : List ℕ) (t : FormulaText) : Type 0 where
  pub words : map (λ w. token_of w.text) (words_of bytes) ≡ text_tokens t
  pub proper : IsProper t

-- ---- the form of a text

-- these literals, and behind them those of a clause that don't stand there before
abbrev pub with_new_literals : List Lit → List Lit → List Lit
with_new_literals done [] = done
with_new_literals done (l ∷ ls) = with_new_literals (if has_literal done l then done else done ++ l ∷ []) ls

abbrev pub without_doubles : List Lit → List Lit
without_doubles ls = with_new_literals [] ls

-- some literal's negation stands behind it
abbrev pub has_opposites : List Lit → Bool
has_opposites [] = false
has_opposites (l ∷ ls) = has_literal ls (negation l) || has_opposites ls

-- a clause with opposite literals is always true, and is left out
abbrev pub kept_clauses : List (List Lit) → List (List Lit)
kept_clauses cs = map without_doubles (filter (λ c. not (has_opposites c)) cs)

abbrev pub bound_of : Quant → ℕ → Bound
bound_of q v = record { quant = q; var = record { 0 = v } }

abbrev pub set_bounds : QuantSet → List Bound
set_bounds s = map (bound_of s.quant) s.vars

-- those that stand in a clause and that no set binds
abbrev pub free_variables : FormulaText → List ℕ
free_variables t = filter (λ v. has_number (flat_map literal_variables t.clauses) v && not (has_number (bound_variables t.sets) v)) (range_with_len 1 t.variables)

-- free variables are bound outermost and exist
abbrev pub form_of : FormulaText → Formula
form_of t = record {
  prefix = map (bound_of Exists) (free_variables t) ++ flat_map set_bounds t.sets;
  clauses = kept_clauses t.clauses;
}

-- the text has this form, with these numbers in its problem line
abbrev pub Qdimacs : List ℕ → ℕ → ℕ → Formula → Type 0
Qdimacs bytes variables clauses form =
    (t : FormulaText) × Says bytes t × (t.variables ≡ variables) × (t.said ≡ clauses) × (length t.clauses ≡ clauses) × (form_of t ≡ form)

-- one form is read from the text, and it is this one
pub record HasOneForm (bytes : List ℕ) (form : Formula) : Type 0 where
  pub read : (variables clauses : ℕ) × Qdimacs bytes variables clauses form
  pub only : (other : Formula) (variables clauses : ℕ) → Qdimacs bytes variables clauses other → other ≡ form
