-- What a reader keeps of the words that it read, and what a word more makes of it.
use Rattle.std.specs.Prelude.{ℕ, pos, ◌≡◌, ◌≤◌, ◌+◌, ◌*◌, Bool, true, false, ◌||◌, ◌&&◌, not, ◌==◌, nat_le, if◌then◌else◌, List, [], ◌∷◌, ◌++◌, map, filter, flat_map, length, slice_set, slice_index_or, Result, Ok, Err, Option, None, Some}
use Rattle.std.specs.List.{range_with_len}
use Rattle.bddl_model.specs.declared.formula.Quant.{Quant}
use Rattle.bddl_model.specs.declared.formula.Quant.TheVariants.{Exists}
use Rattle.bddl_model.specs.declared.formula.Bound.{Bound}
use Rattle.bddl_model.specs.declared.formula.Lit.{Lit}
use Rattle.bddl_model.specs.declared.fault.QFault.{QFault}
use Rattle.bddl_model.specs.declared.fault.QFault.TheVariants as fault
use Rattle.bddl_model.specs.Truth.{Formula, negation}
use Rattle.bddl_model.specs.Forms.{has_number, has_literal, greatest_variables, prefix_variables, literal_variables}
use Rattle.bddl_model.specs.FormulaWords.{Word, FormulaToken, problem, cnf, quantifier, number, token_of}
use Rattle.bddl_model.specs.Qdimacs.{without_doubles, has_opposites, kept_clauses, bound_of, set_bounds}
use Rattle.bddl_model.specs.FormulaPlaces.{FormulaPlace, nothing, after_p, after_cnf, after_variables, in_set, in_clauses}
use Rattle.bddl_model.specs.FormulaFaults.{signed}
use Rattle.bddl_model.specs.FormulaReading.{FormulaRead, lit_of}
use Rattle.qdimacs_io.specs.declared.reader.Stage.{Stage}
use Rattle.qdimacs_io.specs.declared.reader.Stage.TheVariants.{Nothing, AfterP, AfterCnf, AfterVariables, InSet, InClauses}
use Rattle.qdimacs_io.specs.MarkSets.{table, no_mark}

-- ---- a clause that has not ended

pub record OpenLiterals : Type 0 where
  -- how many numbers of literals there are
  pub room : ℕ
  -- each once
  pub literals : List Lit
  pub opposed : Bool

abbrev pub none_open : List Lit → Bool
none_open [] = true
none_open (l ∷ ls) = false

abbrev pub no_literals : ℕ → OpenLiterals
no_literals room = record { room = room; literals = []; opposed = false }

abbrev pub with_literal : OpenLiterals → Lit → OpenLiterals
with_literal o l = record o {
  literals = if has_literal o.literals l then o.literals else o.literals ++ l ∷ [];
  opposed = o.opposed || has_literal o.literals (negation l);
}

abbrev pub with_open : List (List Lit) → OpenLiterals → List (List Lit)
with_open cs o = if o.opposed then cs else cs ++ o.literals ∷ []

-- ---- what is kept

pub record State : Type 0 where
  pub stage : Stage
  pub variables : ℕ
  pub said : ℕ
  pub bounds : List Bound
  pub kept : List (List Lit)
  -- how many clauses ended, those that are not kept too
  pub found : ℕ
  pub open_clause : OpenLiterals
  -- marks of the variables of all clauses
  pub occurs : List Bool

-- the tables have room for the variables
pub record HasRoom (variables : ℕ) (open_clause : OpenLiterals) (occurs : List Bool) : Type 0 where
  pub few : variables ≤ greatest_variables
  pub literal_room : open_clause.room ≡ 2 * variables + 2
  pub variable_room : length occurs ≡ variables + 1

-- ---- a word more

abbrev pub begun : Stage → ℕ → ℕ → State
begun stage v c = record { stage = stage; variables = v; said = c; bounds = []; kept = []; found = 0; open_clause = no_literals (2 * v + 2); occurs = table (v + 1) no_mark }

abbrev pub first_state : State
first_state = begun Nothing 0 0

abbrev pub set_variables : ℕ → State → ℕ → Result State QFault
set_variables n s v = if nat_le v greatest_variables then Ok (begun AfterVariables v 0) else Err (fault.TooManyVariables n v)

abbrev pub bind : ℕ → State → Quant → ℕ → Result State QFault
bind n s q v =
    if v == 0 then Ok (record s { stage = InClauses })
    else if nat_le v s.variables then if has_number (prefix_variables s.bounds) v then Err (fault.BoundTwice n v) else Ok (record s { bounds = s.bounds ++ bound_of q v ∷ [] })
    else Err (fault.OutOfRange n (pos v))

abbrev pub end_clause : State → State
end_clause s = record s { kept = with_open s.kept s.open_clause; found = s.found + 1; open_clause = no_literals s.open_clause.room }

abbrev pub add_literal : State → Lit → State
add_literal s l = record s { open_clause = with_literal s.open_clause l; occurs = slice_set s.occurs l.var.0 true }

abbrev pub take_number : ℕ → State → Bool → ℕ → Result State QFault
take_number n s negated v =
    if v == 0 then Ok (end_clause s)
    else if nat_le v s.variables then Ok (add_literal s (lit_of negated v)) else Err (fault.OutOfRange n (signed negated v))

abbrev pub open_set : ℕ → State → Quant → Result State QFault
open_set n s q = if none_open s.open_clause.literals then if s.found == 0 then Ok (record s { stage = InSet q }) else Err (fault.AfterMatrix n) else Err (fault.BadWord n)

abbrev pub at_stage : ℕ → State → Stage → FormulaToken → Result State QFault
at_stage n s Nothing problem = Ok (record s { stage = AfterP })
at_stage n s Nothing w = Err (fault.NoProblemLine n)
at_stage n s AfterP cnf = Ok (record s { stage = AfterCnf })
at_stage n s AfterCnf (number false v) = set_variables n s v
at_stage n s AfterVariables (number false c) = Ok (record s { stage = InClauses; said = c })
at_stage n s (InSet q) (number false v) = bind n s q v
at_stage n s InClauses (number negated v) = take_number n s negated v
at_stage n s InClauses (quantifier q) = open_set n s q
at_stage n s stage w = Err (fault.BadWord n)

abbrev pub state_step : ℕ → State → FormulaToken → Result State QFault
state_step n s w = at_stage n s s.stage w

-- the state behind these words
abbrev pub states : Result State QFault → List Word → Result State QFault
states (Err f) ws = Err f
states (Ok s) [] = Ok s
states (Ok s) (w ∷ ws) = states (state_step w.line s (token_of w.text)) ws

-- ---- where the text ends on line n

abbrev pub end_at : ℕ → State → Stage → Option QFault
end_at n s Nothing = Some (fault.NoProblemLine n)
end_at n s InClauses = if none_open s.open_clause.literals then if s.said == s.found then None else Some (fault.CountDiffers s.said s.found) else Some (fault.EndsEarly n)
end_at n s stage = Some (fault.EndsEarly n)

abbrev pub state_end : ℕ → State → Option QFault
state_end n s = end_at n s s.stage

-- the variables that are marked and that no bound has
abbrev pub free_marks : ℕ → List Bool → List Bound → List ℕ
free_marks most marks bounds = filter (λ v. slice_index_or marks v false && not (has_number (prefix_variables bounds) v)) (range_with_len 1 most)

abbrev pub with_free : ℕ → List Bool → List Bound → List Bound
with_free most marks bounds = map (bound_of Exists) (free_marks most marks bounds) ++ bounds

abbrev pub form_at : State → Formula
form_at s = record { prefix = with_free s.variables s.occurs s.bounds; clauses = s.kept }

abbrev pub read_of : State → FormulaRead
read_of s = record { variables = s.variables; clauses = s.said; form = form_at s }

-- ---- what a call answers, unless memory runs out

abbrev pub Fails : {A : Type 0} → Result A QFault → QFault → Type 0
Fails expected fault.NoMemory = Unit {0}
Fails expected f = expected ≡ Err f

abbrev pub Goes : Result State QFault → State → Result Unit QFault → Type 0
Goes expected new (Ok u) = expected ≡ Ok new
Goes expected new (Err f) = Fails expected f

abbrev pub Gives : Result State QFault → Result State QFault → Type 0
Gives expected (Ok s) = expected ≡ Ok s
Gives expected (Err f) = Fails expected f

-- ---- what is kept at a place

abbrev pub state_of : FormulaPlace → State
state_of nothing = first_state
state_of after_p = begun AfterP 0 0
state_of after_cnf = begun AfterCnf 0 0
state_of (after_variables v) = begun AfterVariables v 0
state_of (in_set t q vs) = record {
  stage = InSet q;
  variables = t.variables;
  said = t.said;
  bounds = flat_map set_bounds t.sets ++ map (bound_of q) vs;
  kept = kept_clauses t.clauses;
  found = length t.clauses;
  open_clause = no_literals (2 * t.variables + 2);
  occurs = table (t.variables + 1) (has_number (flat_map literal_variables t.clauses));
}
state_of (in_clauses t ls) = record {
  stage = InClauses;
  variables = t.variables;
  said = t.said;
  bounds = flat_map set_bounds t.sets;
  kept = kept_clauses t.clauses;
  found = length t.clauses;
  open_clause = record { room = 2 * t.variables + 2; literals = without_doubles ls; opposed = has_opposites ls };
  occurs = table (t.variables + 1) (has_number (flat_map literal_variables t.clauses ++ literal_variables ls));
}
