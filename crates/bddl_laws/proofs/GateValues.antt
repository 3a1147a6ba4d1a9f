-- The clauses of a circuit hold for the values of its nodes alone, and for those where its output does.
use Rattle.std.proofs.Common.{◌≡◌, ℕ, zero, suc, ◌≤◌, ◌<◌, Bool, true, false, not, ◌&&◌, ◌||◌, List, [], ◌∷◌, ◌++◌, length, ◌↔◌, inl, refl, sym, ap, ◌∙◌, arith, ne_eqb, ⊎_elim}
use Rattle.std.proofs.lemmas.Bool.{and_parts, and_from, false≢true, cases_lt}
use Rattle.std.proofs.lemmas.List.Folds.{list_all-append}
use Rattle.std.proofs.Math.Bool.{and-true, or-false}
use Rattle.bddl_model.specs.declared.formula.Quant.TheVariants.{Exists}
use Rattle.bddl_model.specs.declared.formula.Lit.{Lit}
use Rattle.bddl_model.specs.declared.circuit.Wire.{Wire}
use Rattle.bddl_model.specs.declared.circuit.Gate.{Gate}
use Rattle.bddl_model.specs.Truth.{Assignment, assign, literal_true, clause_true, clauses_true}
use Rattle.bddl_model.specs.Circuit.{Circuit, IsCircuit, IsWire, nodes_of, holds, variable_of, literal_of, positive, gate_clauses, gates_clauses, output_clause, circuit_clauses}
use Rattle.bddl_model.specs.CircuitValues.{SameInputs, SameGates, gate_bounds}
use Rattle.bddl_model.proofs.Assignments.{same_at_all, assign_same, assign_other}
use Rattle.bddl_model.proofs.Blocks.{some_of_block, block_some, not_bound}
use Rattle.bddl_model.proofs.Growth.{opposite_held}
use Rattle.bddl_model.proofs.Tseitin.{negation_true, var_gate, circuit_value, run_same}

-- ---- the clauses of the gates, and the last one

gates_clauses-append : (inputs : ℕ) (gs : List Gate) (v : ℕ) (rest : List (List Lit)) → gates_clauses inputs gs v rest ≡ gates_clauses inputs gs v [] ++ rest
gates_clauses-append inputs [] v rest = refl
gates_clauses-append inputs (g ∷ gs) v rest = ap (gate_clauses v (literal_of inputs g.left) (literal_of inputs g.right)) (gates_clauses-append inputs gs (suc v) rest)

abbrev pub all_but_output : Circuit → List (List Lit)
all_but_output c = (positive (suc c.inputs) ∷ []) ∷ gates_clauses c.inputs c.gates (suc (suc c.inputs)) []

pub output_last : (c : Circuit) (out : Wire) (a : Assignment) → clauses_true (circuit_clauses c out) a ≡ (clauses_true (all_but_output c) a && literal_true a (literal_of c.inputs out))
output_last c out a =
    ap (λ cs. clauses_true ((positive (suc c.inputs) ∷ []) ∷ cs) a) (gates_clauses-append c.inputs c.gates (suc (suc c.inputs)) (output_clause c.inputs out))
    ∙ list_all-append (clause_true a) (all_but_output c) (output_clause c.inputs out)
    ∙ ap (λ t. clauses_true (all_but_output c) a && t) (and-true (literal_true a (literal_of c.inputs out) || false) ∙ or-false (literal_true a (literal_of c.inputs out)))

-- ---- each literal has the value of its wire

opposite : Wire → Wire
opposite w = record w { negated = not w.negated }

opposite_true : (inputs : ℕ) (a : Assignment) (w : Wire) → literal_true a (literal_of inputs w) ≡ false → literal_true a (literal_of inputs (opposite w)) ≡ true
unfolding opposite
opposite_true inputs a w e = negation_true a (literal_of inputs w) ∙ ap not e

-- a wire whose literal is true may stand in the place of the output
true_wire_holds : (c : Circuit) (w : Wire) (a : Assignment) → IsCircuit c → IsWire c w → clauses_true (all_but_output c) a ≡ true → literal_true a (literal_of c.inputs w) ≡ true → holds c w a ≡ true
true_wire_holds c w a is iw all here =
    sym (circuit_value c w a is iw)
    ∙ block_some (suc (length c.gates)) (suc c.inputs) (clauses_true (circuit_clauses c w)) a a (same_at_all a (gate_bounds c)) (output_last c w a ∙ and_from _ _ all here)

pub literals_are_wires : (c : Circuit) (out w : Wire) (a : Assignment) → IsCircuit c → IsWire c w → clauses_true (circuit_clauses c out) a ≡ true → literal_true a (literal_of c.inputs w) ≡ holds c w a
unfolding opposite
literals_are_wires c out w a is iw all = go (literal_true a (literal_of c.inputs w)) refl
  where
    gates_true : clauses_true (all_but_output c) a ≡ true
    gates_true = (and_parts _ _ (sym (output_last c out a) ∙ all)).0

    is_false : (x y : Bool) → x ≡ not y → x ≡ true → y ≡ false
    is_false x true h e = absurd (false≢true (sym h ∙ e))
    is_false x false h e = refl

    go : (t : Bool) → literal_true a (literal_of c.inputs w) ≡ t → t ≡ holds c w a
    go true e = sym (true_wire_holds c w a is iw gates_true e)
    go false e = sym (is_false (holds c (opposite w) a) (holds c w a) (opposite_held c (opposite w) w a refl refl) (true_wire_holds c (opposite w) a is iw gates_true (opposite_true c.inputs a w e)))

-- ---- the inputs alone decide

holds_by_inputs : (c : Circuit) (w : Wire) (a b : Assignment) → IsCircuit c → IsWire c w → SameInputs c a b → holds c w a ≡ holds c w b
unfolding holds
holds_by_inputs c w a b is iw same = run_same c.gates (suc c.inputs) (assign 0 true a) (assign 0 true b) w is iw at
  where
    at : (k : ℕ) → k < suc c.inputs → assign 0 true a k ≡ assign 0 true b k
    at zero lt = assign_same 0 true a ∙ sym (assign_same 0 true b)
    at (suc k) lt = assign_other 0 true a (suc k) (ne_eqb 0 (suc k) (λ e. omega arith)) ∙ same (suc k) (omega arith) (omega arith) ∙ sym (assign_other 0 true b (suc k) (ne_eqb 0 (suc k) (λ e. omega arith)))

pub clauses_are_satisfied : (c : Circuit) (out : Wire) (a : Assignment) → IsCircuit c → IsWire c out → ((b : Assignment) × SameInputs c a b × (clauses_true (circuit_clauses c out) b ≡ true)) ↔ (holds c out a ≡ true)
clauses_are_satisfied c out a is iw = (then_holds, then_some)
  where
    then_holds : (b : Assignment) × SameInputs c a b × (clauses_true (circuit_clauses c out) b ≡ true) → holds c out a ≡ true
    then_holds (b, same, all) =
        let both = and_parts _ _ (sym (output_last c out b) ∙ all) in
        holds_by_inputs c out a b is iw same ∙ true_wire_holds c out b is iw both.0 both.1

    then_some : holds c out a ≡ true → (b : Assignment) × SameInputs c a b × (clauses_true (circuit_clauses c out) b ≡ true)
    then_some h =
        let some = some_of_block (suc (length c.gates)) (suc c.inputs) (clauses_true (circuit_clauses c out)) a (circuit_value c out a is iw ∙ h) in
        (some.0, (λ v low high. some.1 v (not_bound Exists (suc (length c.gates)) (suc c.inputs) v (inl (omega arith)))), some.2)

-- ---- and the values are unique

pub gate_values_are_unique : (c : Circuit) (out : Wire) (a b : Assignment) → IsCircuit c → SameInputs c a b → clauses_true (circuit_clauses c out) a ≡ true → clauses_true (circuit_clauses c out) b ≡ true → SameGates c a b
gate_values_are_unique c out a b is same ha hb v low high = go (variable_is v low high)
  where
    node : ℕ → Wire
    node k = record { node = record { 0 = k }; negated = false }

    -- the node that a gate variable belongs to
    variable_is : (v : ℕ) → c.inputs < v → v ≤ nodes_of c → (k : ℕ) × (k < nodes_of c) × (variable_of c.inputs k ≡ v)
    variable_is zero low high = absurd (omega arith)
    variable_is (suc n) low high = ⊎_elim
        (λ lt. (n, omega arith, var_gate c.inputs n lt))
        (λ le. (0, omega arith, (let e : c.inputs ≡ n = omega arith in ap suc e)))
        (cases_lt c.inputs n)

    go : (k : ℕ) × (k < nodes_of c) × (variable_of c.inputs k ≡ v) → a v ≡ b v
    go (k, lt, e) =
        ap a (sym e)
        ∙ literals_are_wires c out (node k) a is lt ha
        ∙ holds_by_inputs c (node k) a b is lt same
        ∙ sym (literals_are_wires c out (node k) b is lt hb)
        ∙ ap b e
