-- What is wrong with a formula text: the first word that can't stand where it does, or an end that comes too early or with another number of clauses.
use Rattle.std.specs.Prelude.{ℕ, ℤ, pos, neg_ℤ, ◌≡◌, Bool, false, ◌==◌, nat_le, if◌then◌else◌, List, [], ◌∷◌, ◌++◌, length, Option, None, Some}
use Rattle.bddl_model.specs.declared.formula.Lit.{Lit}
use Rattle.bddl_model.specs.declared.fault.QFault.{QFault}
use Rattle.bddl_model.specs.declared.fault.QFault.TheVariants.{NoProblemLine, BadWord, OutOfRange, BoundTwice, AfterMatrix, EndsEarly, TooManyVariables, CountDiffers}
use Rattle.bddl_model.specs.Forms.{has_number, greatest_variables}
use Rattle.bddl_model.specs.FormulaWords.{Word, FormulaToken, problem, cnf, quantifier, number, words_of, last_line, token_of}
use Rattle.bddl_model.specs.FormulaPlaces.{FormulaPlace, nothing, after_p, after_cnf, after_variables, in_set, in_clauses, LeadsTo}
use Rattle.bddl_model.specs.Qdimacs.{bound_variables}

-- ---- a word on line n

abbrev pub signed : Bool → ℕ → ℤ
signed negated v = if negated then neg_ℤ (pos v) else pos v

-- the problem line's number of variables
abbrev pub variables_fault : ℕ → ℕ → Option QFault
variables_fault n v = if nat_le v greatest_variables then None else Some (TooManyVariables n v)

-- a number of a quantifier set, where these variables are bound; 0 ends the set
abbrev pub bound_fault : ℕ → ℕ → List ℕ → ℕ → Option QFault
bound_fault n most bound v =
    if v == 0 then None
    else if nat_le v most then if has_number bound v then Some (BoundTwice n v) else None
    else Some (OutOfRange n (pos v))

-- a number of a clause; 0 ends the clause
abbrev pub literal_fault : ℕ → ℕ → Bool → ℕ → Option QFault
literal_fault n most negated v = if nat_le v most then None else Some (OutOfRange n (signed negated v))

-- a quantifier, behind these clauses and these literals of the next one
abbrev pub quantifier_fault : ℕ → List (List Lit) → List Lit → Option QFault
quantifier_fault n [] [] = None
quantifier_fault n (c ∷ cs) [] = Some (AfterMatrix n)
quantifier_fault n cs (l ∷ ls) = Some (BadWord n)

-- any word
abbrev pub fault_at : ℕ → FormulaPlace → FormulaToken → Option QFault
fault_at n nothing problem = None
fault_at n nothing w = Some (NoProblemLine n)
fault_at n after_p cnf = None
fault_at n after_cnf (number false v) = variables_fault n v
fault_at n (after_variables v) (number false c) = None
fault_at n (in_set t q vs) (number false v) = bound_fault n t.variables (bound_variables t.sets ++ vs) v
fault_at n (in_clauses t ls) (number negated v) = literal_fault n t.variables negated v
fault_at n (in_clauses t ls) (quantifier q) = quantifier_fault n t.clauses ls
fault_at n p w = Some (BadWord n)

-- ---- the end of a text whose last line is n

abbrev pub end_fault : ℕ → FormulaPlace → Option QFault
end_fault n nothing = Some (NoProblemLine n)
end_fault n (in_clauses t []) = if t.said == length t.clauses then None else Some (CountDiffers t.said (length t.clauses))
end_fault n p = Some (EndsEarly n)

-- ---- the whole

-- at this place comes the first of these words, or the text ends
abbrev pub FailsAt : ℕ → FormulaPlace → QFault → List Word → Type 0
FailsAt last p f [] = end_fault last p ≡ Some f
FailsAt last p f (w ∷ rest) = fault_at w.line p (token_of w.text) ≡ Some f

-- the text is no formula for this fault
abbrev pub QdimacsFails : List ℕ → QFault → Type 0
QdimacsFails bytes f = (p : FormulaPlace) × (front rest : List Word) × (words_of bytes ≡ front ++ rest) × LeadsTo front p × FailsAt (last_line bytes) p f rest
