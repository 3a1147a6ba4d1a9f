-- What the reader keeps at each place follows the places.
use Rattle.std.proofs.Common.{◌≡◌, ℕ, suc, ◌+◌, ◌*◌, ◌≤◌, Bool, true, false, ◌||◌, nat_eq, nat_le, if◌then◌else◌, List, [], ◌∷◌, ◌++◌, length, map, set, Option, None, Some, refl, sym, ap, ◌∙◌, inl, inr, arith, append_assoc, Ok, Err, Result}
use Rattle.std.specs.List.{flat_map}
use Rattle.std.proofs.lemmas.Bool.{cases_Bool, leb-true, ne_eqb, eqb-true, le-leb}
use Rattle.std.proofs.lemmas.List.{append-nil, map_push, map-append, length_push}
use Rattle.bddl_model.specs.declared.formula.Quant.{Quant}
use Rattle.bddl_model.specs.declared.formula.Bound.{Bound}
use Rattle.bddl_model.specs.declared.formula.Lit.{Lit}
use Rattle.bddl_model.specs.declared.fault.QFault.{QFault}
use Rattle.bddl_model.specs.Truth.{negation}
use Rattle.bddl_model.specs.Forms.{has_number, has_literal, greatest_variables, prefix_variables, literal_variables}
use Rattle.bddl_model.specs.FormulaText.{FormulaText, QuantSet}
use Rattle.bddl_model.specs.FormulaWords.{Word, FormulaToken, problem, cnf, quantifier, number, other, token_of}
use Rattle.bddl_model.specs.Qdimacs.{bound_variables, with_new_literals, without_doubles, has_opposites, bound_of, set_bounds}
use Rattle.bddl_model.specs.FormulaPlaces.{FormulaPlace, nothing, after_p, after_cnf, after_variables, in_set, in_clauses, IsProperPlace}
use Rattle.bddl_model.specs.FormulaFaults.{fault_at, bound_fault, literal_fault, quantifier_fault, end_fault}
use Rattle.bddl_model.specs.FormulaReading.{unless, lit_of, behind, steps, with_clause, behind_variable, behind_literal}
use Rattle.bddl_model.proofs.WrittenForms.{bounds_variables}
use Rattle.bddl_model.proofs.FormulaPlaces.{flat_push, step_keeps}
use Rattle.bddl_model.proofs.FormulaReading.{token_signed}
use Rattle.qdimacs_io.specs.declared.reader.Stage.{Stage}
use Rattle.qdimacs_io.specs.declared.reader.Stage.TheVariants.{Nothing, AfterP, AfterCnf, AfterVariables, InSet, InClauses}
use Rattle.qdimacs_io.specs.MarkSets.{table}
use Rattle.qdimacs_io.specs.States.{State, state_of, state_step, bind, end_clause, add_literal, take_number, open_set, none_open, set_variables, at_stage, states, state_end}
use Rattle.qdimacs_io.proofs.Tables.{table_push}
use Rattle.qdimacs_io.proofs.Literals.{doubles_push, has_without, opposites_push, kept_push}

-- ---- the variables of sets

pub open_variables : (sets : List QuantSet) (q : Quant) (vs : List ℕ) → prefix_variables (flat_map set_bounds sets ++ map (bound_of q) vs) ≡ bound_variables sets ++ vs
open_variables sets q vs = map-append (λ (b : Bound). b.var.0) (flat_map set_bounds sets) (map (bound_of q) vs) ∙ ap (λ l. l ++ prefix_variables (map (bound_of q) vs)) (bounds_variables sets) ∙ ap (λ l. bound_variables sets ++ l) (same vs)
  where
    same : (vs : List ℕ) → prefix_variables (map (bound_of q) vs) ≡ vs
    same [] = refl
    same (v ∷ vs) = ap (λ l. v ∷ l) (same vs)

-- ---- a word more

abbrev pub view_result : Result FormulaPlace QFault → Result State QFault
view_result (Ok p) = Ok (state_of p)
view_result (Err f) = Err f

in_set_state : (n : ℕ) (t : FormulaText) (q : Quant) (vs : List ℕ) (v : ℕ) → t.clauses ≡ [] → bind n (state_of (in_set t q vs)) q v ≡ view_result (unless (bound_fault n t.variables (bound_variables t.sets ++ vs) v) (behind_variable t q vs v))
in_set_state n t q vs v none = elim (cases_Bool (nat_eq v 0)) [
  | inl null ↦ rw null (rw none (rw (flat_push set_bounds t.sets (record { quant = q; vars = vs })) refl))
  | inr some ↦ rw some (elim (cases_Bool (nat_le v t.variables)) [
    | inr big ↦ rw big refl
    | inl small ↦ rw (small, open_variables t.sets q vs) (elim (cases_Bool (has_number (bound_variables t.sets ++ vs) v)) [
      | inl twice ↦ rw twice refl
      | inr once ↦ rw once (ap (λ (bs : List Bound). Ok (record (state_of (in_set t q vs)) { bounds = bs })) (append_assoc (flat_map set_bounds t.sets) (map (bound_of q) vs) (bound_of q v ∷ []) ∙ ap (λ l. flat_map set_bounds t.sets ++ l) (sym (map_push (bound_of q) vs v))))
    ])
  ])
]

end_state_of_clause : (t : FormulaText) (ls : List Lit) → end_clause (state_of (in_clauses t ls)) ≡ state_of (in_clauses (with_clause t ls) [])
end_state_of_clause t ls = rw (kept_push t.clauses ls, length_push t.clauses ls, flat_push literal_variables t.clauses ls, append-nil (flat_map literal_variables t.clauses ++ literal_variables ls)) refl

add_state : (t : FormulaText) (ls : List Lit) (l : Lit) → l.var.0 ≤ t.variables → add_literal (state_of (in_clauses t ls)) l ≡ state_of (in_clauses t (ls ++ l ∷ []))
add_state t ls l le = go (table_push (t.variables + 1) (flat_map literal_variables t.clauses ++ literal_variables ls) l.var.0 (omega arith))
  where
    occurring : (flat_map literal_variables t.clauses ++ literal_variables ls) ++ l.var.0 ∷ [] ≡ flat_map literal_variables t.clauses ++ literal_variables (ls ++ l ∷ [])
    occurring = append_assoc (flat_map literal_variables t.clauses) (literal_variables ls) (l.var.0 ∷ []) ∙ ap (λ x. flat_map literal_variables t.clauses ++ x) (sym (map_push (λ (m : Lit). m.var.0) ls l))

    go : set (table (t.variables + 1) (has_number (flat_map literal_variables t.clauses ++ literal_variables ls))) l.var.0 true ≡ table (t.variables + 1) (has_number ((flat_map literal_variables t.clauses ++ literal_variables ls) ++ l.var.0 ∷ []))
        → add_literal (state_of (in_clauses t ls)) l ≡ state_of (in_clauses t (ls ++ l ∷ []))
    go marked = parts (sym (doubles_push [] ls l)) (ap (λ b. has_opposites ls || b) (has_without ls (negation l)) ∙ sym (opposites_push ls l)) (marked ∙ ap (λ x. table (t.variables + 1) (has_number x)) occurring)
      where
        parts : {ls' : List Lit} {o : Bool} {occ : List Bool}
            → (if has_literal (without_doubles ls) l then without_doubles ls else without_doubles ls ++ l ∷ []) ≡ ls'
            → (has_opposites ls || has_literal (without_doubles ls) (negation l)) ≡ o
            → set (table (t.variables + 1) (has_number (flat_map literal_variables t.clauses ++ literal_variables ls))) l.var.0 true ≡ occ
            → add_literal (state_of (in_clauses t ls)) l ≡ record (state_of (in_clauses t ls)) { open_clause = record { room = 2 * t.variables + 2; literals = ls'; opposed = o }; occurs = occ }
        parts a b c = rw (sym a, sym b, sym c) refl

number_state : (n : ℕ) (t : FormulaText) (ls : List Lit) (negated : Bool) (v : ℕ) → take_number n (state_of (in_clauses t ls)) negated v ≡ view_result (unless (literal_fault n t.variables negated v) (behind_literal t ls negated v))
number_state n t ls negated v = elim (cases_Bool (nat_eq v 0)) [
  | inl null ↦ rw (eqb-true v 0 null, le-leb 0 t.variables (omega arith)) (ap (λ (s : State). Ok s) (end_state_of_clause t ls))
  | inr some ↦ rw some (elim (cases_Bool (nat_le v t.variables)) [
    | inr big ↦ rw big refl
    | inl small ↦ rw small (ap (λ (s : State). Ok s) (add_state t ls (lit_of negated v) (leb-true v t.variables small)))
  ])
]

some_open : (d : Lit) (done ls : List Lit) → none_open (with_new_literals (d ∷ done) ls) ≡ false
some_open d done [] = refl
some_open d done (x ∷ ls) = elim (cases_Bool (has_literal (d ∷ done) x)) [
  | inl has ↦ rw has (some_open d done ls)
  | inr new ↦ rw new (some_open d (done ++ x ∷ []) ls)
]

quantifier_state : (n : ℕ) (t : FormulaText) (ls : List Lit) (q : Quant) → open_set n (state_of (in_clauses t ls)) q ≡ view_result (unless (quantifier_fault n t.clauses ls) (in_set t q []))
quantifier_state n t ls q = go t.clauses ls refl
  where
    go : (cs : List (List Lit)) (ls : List Lit) → t.clauses ≡ cs → open_set n (state_of (in_clauses t ls)) q ≡ view_result (unless (quantifier_fault n cs ls) (in_set t q []))
    go [] [] none = rw none (rw (append-nil (flat_map set_bounds t.sets)) refl)
    go (c ∷ cs) [] some = rw some (rw (ne_eqb (suc (length cs)) 0 (λ e. omega arith)) refl)
    go cs (l ∷ ls) is = rw (some_open l [] ls) refl

pub step_state : (n : ℕ) (p : FormulaPlace) (w : FormulaToken) → IsProperPlace p → state_step n (state_of p) w ≡ view_result (unless (fault_at n p w) (behind p w))
step_state n nothing problem proper = refl
step_state n nothing cnf proper = refl
step_state n nothing (quantifier q) proper = refl
step_state n nothing (number b v) proper = refl
step_state n nothing other proper = refl
step_state n after_p problem proper = refl
step_state n after_p cnf proper = refl
step_state n after_p (quantifier q) proper = refl
step_state n after_p (number b v) proper = refl
step_state n after_p other proper = refl
step_state n after_cnf problem proper = refl
step_state n after_cnf cnf proper = refl
step_state n after_cnf (quantifier q) proper = refl
step_state n after_cnf (number true v) proper = refl
step_state n after_cnf (number false v) proper = elim (cases_Bool (nat_le v greatest_variables)) [
  | inl small ↦ rw small refl
  | inr big ↦ rw big refl
]
step_state n after_cnf other proper = refl
step_state n (after_variables v) problem proper = refl
step_state n (after_variables v) cnf proper = refl
step_state n (after_variables v) (quantifier q) proper = refl
step_state n (after_variables v) (number true m) proper = refl
step_state n (after_variables v) (number false m) proper = refl
step_state n (after_variables v) other proper = refl
step_state n (in_set t q vs) problem proper = refl
step_state n (in_set t q vs) cnf proper = refl
step_state n (in_set t q vs) (quantifier r) proper = refl
step_state n (in_set t q vs) (number true m) proper = refl
step_state n (in_set t q vs) (number false m) proper = in_set_state n t q vs m proper.1
step_state n (in_set t q vs) other proper = refl
step_state n (in_clauses t ls) problem proper = refl
step_state n (in_clauses t ls) cnf proper = refl
step_state n (in_clauses t ls) (quantifier q) proper = quantifier_state n t ls q
step_state n (in_clauses t ls) (number b v) proper = number_state n t ls b v
step_state n (in_clauses t ls) other proper = refl

pub states_follow : (p : FormulaPlace) (ws : List Word) → IsProperPlace p → states (Ok (state_of p)) ws ≡ view_result (steps (Ok p) ws)
states_follow p [] proper = refl
states_follow p (w ∷ ws) proper =
    ap (λ r. states r ws) (step_state w.line p (token_of w.text) proper)
    ∙ go (fault_at w.line p (token_of w.text)) refl (λ right. states_follow (behind p (token_of w.text)) ws (step_keeps w.line p (token_of w.text) (token_signed w.text) right proper).1)
  where
    go : (o : Option QFault) → fault_at w.line p (token_of w.text) ≡ o → (fault_at w.line p (token_of w.text) ≡ None → states (Ok (state_of (behind p (token_of w.text)))) ws ≡ view_result (steps (Ok (behind p (token_of w.text))) ws))
        → states (view_result (unless (fault_at w.line p (token_of w.text)) (behind p (token_of w.text)))) ws ≡ view_result (steps (unless (fault_at w.line p (token_of w.text)) (behind p (token_of w.text))) ws)
    go None right rest = rw right (rest right)
    go (Some f) wrong rest = rw wrong refl

pub end_state : (n : ℕ) (p : FormulaPlace) → state_end n (state_of p) ≡ end_fault n p
end_state n nothing = refl
end_state n after_p = refl
end_state n after_cnf = refl
end_state n (after_variables v) = refl
end_state n (in_set t q vs) = refl
end_state n (in_clauses t []) = refl
end_state n (in_clauses t (l ∷ ls)) = rw (some_open l [] ls) refl

-- each word ends at most one clause
abbrev found_of : Result State QFault → ℕ
found_of (Ok s) = s.found
found_of (Err f) = 0

found_if : (b : Bool) (r q : Result State QFault) (m : ℕ) → found_of r ≤ m → found_of q ≤ m → found_of (if b then r else q) ≤ m
found_if true r q m h k = h
found_if false r q m h k = k

found_bind : (n : ℕ) (s : State) (q : Quant) (v : ℕ) → found_of (bind n s q v) ≤ s.found + 1
found_bind n s q v =
    found_if (nat_eq v 0) _ _ (s.found + 1) (omega arith) (
    found_if (nat_le v s.variables) _ _ (s.found + 1) (found_if (has_number (prefix_variables s.bounds) v) _ _ (s.found + 1) (omega arith) (omega arith)) (omega arith))

found_number : (n : ℕ) (s : State) (b : Bool) (v : ℕ) → found_of (take_number n s b v) ≤ s.found + 1
found_number n s b v = found_if (nat_eq v 0) _ _ (s.found + 1) (omega arith) (found_if (nat_le v s.variables) _ _ (s.found + 1) (omega arith) (omega arith))

found_open : (n : ℕ) (s : State) (q : Quant) → found_of (open_set n s q) ≤ s.found + 1
found_open n s q = found_if (none_open s.open_clause.literals) _ _ (s.found + 1) (found_if (nat_eq s.found 0) _ _ (s.found + 1) (omega arith) (omega arith)) (omega arith)

found_head : (n : ℕ) (s : State) (v : ℕ) → found_of (set_variables n s v) ≤ s.found + 1
found_head n s v = found_if (nat_le v greatest_variables) _ _ (s.found + 1) (omega arith) (omega arith)

found_at : (n : ℕ) (s : State) (stage : Stage) (w : FormulaToken) → found_of (at_stage n s stage w) ≤ s.found + 1
found_at n s Nothing problem = omega arith
found_at n s Nothing cnf = omega arith
found_at n s Nothing (quantifier q) = omega arith
found_at n s Nothing (number b v) = omega arith
found_at n s Nothing other = omega arith
found_at n s AfterP problem = omega arith
found_at n s AfterP cnf = omega arith
found_at n s AfterP (quantifier q) = omega arith
found_at n s AfterP (number b v) = omega arith
found_at n s AfterP other = omega arith
found_at n s AfterCnf problem = omega arith
found_at n s AfterCnf cnf = omega arith
found_at n s AfterCnf (quantifier q) = omega arith
found_at n s AfterCnf (number true v) = omega arith
found_at n s AfterCnf (number false v) = found_head n s v
found_at n s AfterCnf other = omega arith
found_at n s AfterVariables problem = omega arith
found_at n s AfterVariables cnf = omega arith
found_at n s AfterVariables (quantifier q) = omega arith
found_at n s AfterVariables (number true v) = omega arith
found_at n s AfterVariables (number false v) = omega arith
found_at n s AfterVariables other = omega arith
found_at n s (InSet q) problem = omega arith
found_at n s (InSet q) cnf = omega arith
found_at n s (InSet q) (quantifier r) = omega arith
found_at n s (InSet q) (number true v) = omega arith
found_at n s (InSet q) (number false v) = found_bind n s q v
found_at n s (InSet q) other = omega arith
found_at n s InClauses problem = omega arith
found_at n s InClauses cnf = omega arith
found_at n s InClauses (quantifier q) = found_open n s q
found_at n s InClauses (number b v) = found_number n s b v
found_at n s InClauses other = omega arith

pub found_step : (n : ℕ) (s s' : State) (w : FormulaToken) → state_step n s w ≡ Ok s' → s'.found ≤ s.found + 1
found_step n s s' w e = let h = found_at n s s.stage w in let same : found_of (state_step n s w) ≡ s'.found = ap found_of e in omega arith

-- a turn of the loop
pub states_kept : (s s' : State) (w : Word) (ws all : List Word) (t : FormulaToken) → t ≡ token_of w.text → all ≡ w ∷ ws → state_step w.line s t ≡ Ok s' → states (Ok s') ws ≡ states (Ok s) all
states_kept s s' w ws all t is words e = rw words (ap (λ r. states r ws) (sym e ∙ ap (state_step w.line s) is))
