-- The tail of a circuit's clauses, behind a prefix that binds its inputs, holds all its gate variables.
use Rattle.std.proofs.Common.{◌≡◌, ℕ, zero, suc, ◌≤◌, ◌<◌, Bool, true, false, not, ◌&&◌, List, [], ◌∷◌, ◌++◌, length, inl, inr, ⊎_elim, refl, sym, ap, ◌∙◌, subst, arith, eqb-true, eq-eqb, ne_eqb, lt-ltb, append_assoc, length-append, length-drop, drop}
use Rattle.std.specs.Prelude.{◌==◌}
use Rattle.std.specs.List.{list_any, list_all}
use Rattle.std.proofs.lemmas.Bool.{le-leb, and_from, or_left, or_right, or_cases, cases_lt, false≢true}
use Rattle.std.proofs.lemmas.List.Folds.{list_any-append}
use Rattle.bddl_model.specs.declared.formula.Quant.TheVariants.{Exists}
use Rattle.bddl_model.specs.declared.formula.Bound.{Bound}
use Rattle.bddl_model.specs.declared.formula.Lit.{Lit}
use Rattle.bddl_model.specs.declared.circuit.Wire.{Wire}
use Rattle.bddl_model.specs.declared.circuit.Gate.{Gate}
use Rattle.bddl_model.specs.Truth.{Formula, negation}
use Rattle.bddl_model.specs.Setup.{Setup}
use Rattle.bddl_model.specs.Forms.{has_number, prefix_variables, same_literal, has_literal}
use Rattle.bddl_model.specs.Layout.{bounds}
use Rattle.bddl_model.specs.Circuit.{Circuit, IsCircuit, Ordered, variable_of, literal_of, positive, gate_clauses, gates_clauses, output_clause, circuit_clauses}
use Rattle.bddl_model.specs.CircuitValues.{gate_bounds}
use Rattle.bddl_model.specs.Size.{inputs_of, gate_limit, is_small}
use Rattle.bddl_model.specs.Bounds.{bound, game_bound}
use Rattle.bddl_model.specs.Tail.{same_clause, has_clause, literals_of, defines, is_gate, are_gates, is_tail, tail_length}
use Rattle.bddl_model.proofs.NumberLists.{has_append}
use Rattle.bddl_model.proofs.Tseitin.{var_gate}
use Rattle.bddl_model.proofs.CircuitForms.{var_apart}
use Rattle.bddl_laws.proofs.FormBounds.{small_form_bound}
use Rattle.bddl_laws.proofs.Literals.{same_as_itself}
use Rattle.bddl_laws.proofs.Tails.{tail_is_greatest}

-- ---- clauses that stand there

literals_stand : (front c : List Lit) → list_all (has_literal (front ++ c)) c ≡ true
literals_stand front [] = refl
literals_stand front (l ∷ c) = and_from _ _ here (subst (λ ls. list_all (has_literal ls) c ≡ true) (append_assoc front (l ∷ []) c) (literals_stand (front ++ l ∷ []) c))
  where
    here : has_literal (front ++ l ∷ c) l ≡ true
    here = list_any-append (same_literal l) front (l ∷ c) ∙ or_right (has_literal front l) _ (or_left (same_literal l l) _ (same_as_itself l))

clause_stands : (front : List (List Lit)) (c : List Lit) (rest : List (List Lit)) → has_clause (front ++ c ∷ rest) c ≡ true
clause_stands front c rest = list_any-append (same_clause c) front (c ∷ rest) ∙ or_right (list_any (same_clause c) front) _ (or_left (same_clause c c) _ (and_from _ _ (literals_stand [] c) (literals_stand [] c)))

-- ---- gates

literal_found : (test : Lit → Bool) (l : Lit) (vs : List ℕ) → has_number vs l.var.0 ≡ true → test l ≡ true → list_any test (literals_of vs) ≡ true
literal_found test l [] h t = absurd (false≢true h)
literal_found test l (v ∷ vs) h t = elim (or_cases (v == l.var.0) (has_number vs l.var.0) h) [
  | inl here ↦ go l.negated (ap (λ w. test (record { var = record { 0 = w }; negated = l.negated })) (eqb-true v l.var.0 here) ∙ t)
  | inr later ↦ or_right (test (positive v)) _ (or_right (test (negation (positive v))) _ (literal_found test l vs later t))
]
  where
    go : (n : Bool) → test (record { var = record { 0 = v }; negated = n }) ≡ true → list_any test (literals_of (v ∷ vs)) ≡ true
    go true e = or_right (test (positive v)) _ (or_left (test (negation (positive v))) _ e)
    go false e = or_left (test (positive v)) _ e

gate_defined : (front : List (List Lit)) (v : ℕ) (x y : Lit) (rest : List (List Lit)) → defines (front ++ gate_clauses v x y rest) v x y ≡ true
gate_defined front v x y rest = and_from _ _ (clause_stands front not_x _) (and_from _ _ second third)
  where
    not_x : List Lit
    not_x = negation (positive v) ∷ x ∷ []

    not_y : List Lit
    not_y = negation (positive v) ∷ y ∷ []

    both : List Lit
    both = positive v ∷ negation x ∷ negation y ∷ []

    second : has_clause (front ++ gate_clauses v x y rest) not_y ≡ true
    second = subst (λ cs. has_clause cs not_y ≡ true) (append_assoc front (not_x ∷ []) (not_y ∷ both ∷ rest)) (clause_stands (front ++ not_x ∷ []) not_y (both ∷ rest))

    third : has_clause (front ++ gate_clauses v x y rest) both ≡ true
    third = subst (λ cs. has_clause cs both ≡ true) (append_assoc front (not_x ∷ not_y ∷ []) (both ∷ rest)) (clause_stands (front ++ not_x ∷ not_y ∷ []) both rest)

gate_stands : (cs : List (List Lit)) (before : List ℕ) (v : ℕ) (x y : Lit) → has_number before x.var.0 ≡ true → has_number before y.var.0 ≡ true → (x.var.0 == y.var.0) ≡ false → defines cs v x y ≡ true → is_gate cs before v ≡ true
gate_stands cs before v x y hx hy apart defined =
    literal_found (λ a. list_any (λ b. not (a.var.0 == b.var.0) && defines cs v a b) (literals_of before)) x before hx
    (literal_found (λ b. not (x.var.0 == b.var.0) && defines cs v x b) y before hy
    (and_from _ _ (ap not apart) defined))

-- ---- the gates of a circuit

-- each node below n has its variable among these
abbrev HasNodes : ℕ → List ℕ → ℕ → Type 0
HasNodes inputs before n = (k : ℕ) → k < n → has_number before (variable_of inputs k) ≡ true

one_node_more : (inputs : ℕ) (before : List ℕ) (n : ℕ) → inputs < n → HasNodes inputs before n → HasNodes inputs (before ++ suc n ∷ []) (suc n)
one_node_more inputs before n lt has k below = has_append before (suc n ∷ []) (variable_of inputs k) ∙ ⊎_elim
    (λ earlier. or_left _ _ (has k earlier))
    (λ last. let same : n ≡ k = omega arith in or_right (has_number before (variable_of inputs k)) _ (or_left (suc n == variable_of inputs k) _ (eq-eqb (suc n) (variable_of inputs k) (sym (var_gate inputs n lt) ∙ ap (variable_of inputs) same))))
    (cases_lt k n)

module _ (inputs : ℕ) (cs last : List (List Lit)) where
  circuit_gates_are_gates : (gs : List Gate) (n : ℕ) (before : List ℕ) (front : List (List Lit)) → inputs < n → Ordered gs n → HasNodes inputs before n → front ++ gates_clauses inputs gs (suc n) last ≡ cs → are_gates cs before (bounds Exists (suc n) (length gs)) ≡ true
  circuit_gates_are_gates [] n before front lt o has whole = refl
  circuit_gates_are_gates (g ∷ gs) n before front lt o has whole = and_from _ _ here (circuit_gates_are_gates gs (suc n) (before ++ suc n ∷ []) (front ++ gate_clauses (suc n) x y []) (omega arith) o.2 (one_node_more inputs before n lt has) (append_assoc front (gate_clauses (suc n) x y []) (gates_clauses inputs gs (suc (suc n)) last) ∙ whole))
    where
      x : Lit
      x = literal_of inputs g.left

      y : Lit
      y = literal_of inputs g.right

      here : is_gate cs before (suc n) ≡ true
      here = gate_stands cs before (suc n) x y (has g.left.node.0 (omega (arith, o.0, o.1))) (has g.right.node.0 o.1)
          (ne_eqb x.var.0 y.var.0 (var_apart inputs g.left.node.0 g.right.node.0 o.0))
          (subst (λ all. defines all (suc n) x y ≡ true) whole (gate_defined front (suc n) x y (gates_clauses inputs gs (suc (suc n)) last)))

pub gates_are_a_tail : (c : Circuit) (out : Wire) (before : List ℕ) → IsCircuit c → ((v : ℕ) → 1 ≤ v → v ≤ c.inputs → has_number before v ≡ true) → is_tail (circuit_clauses c out) before (gate_bounds c) ≡ true
gates_are_a_tail c out before is has = and_from _ _ (clause_stands [] first (gates_clauses c.inputs c.gates (suc (suc c.inputs)) (output_clause c.inputs out))) (circuit_gates_are_gates c.inputs (circuit_clauses c out) (output_clause c.inputs out) c.gates (suc c.inputs) (before ++ suc c.inputs ∷ []) (first ∷ []) (omega arith) is nodes refl)
  where
    first : List Lit
    first = positive (suc c.inputs) ∷ []

    nodes : HasNodes c.inputs (before ++ suc c.inputs ∷ []) (suc c.inputs)
    nodes zero lt = has_append before (suc c.inputs ∷ []) (suc c.inputs) ∙ or_right (has_number before (suc c.inputs)) _ (or_left (suc c.inputs == suc c.inputs) _ (eq-eqb (suc c.inputs) (suc c.inputs) refl))
    nodes (suc k) lt = let low : k < c.inputs = omega arith in rw (lt-ltb k c.inputs low) (has_append before (suc c.inputs ∷ []) (suc k) ∙ or_left (has_number before (suc k)) _ (has (suc k) (omega arith) (omega arith)))

pub circuit_tail : (prefix : List Bound) (c : Circuit) (out : Wire) → IsCircuit c → ((v : ℕ) → 1 ≤ v → v ≤ c.inputs → has_number (prefix_variables prefix) v ≡ true) → length (gate_bounds c) ≤ tail_length (record { prefix = prefix ++ gate_bounds c; clauses = circuit_clauses c out })
circuit_tail prefix c out is has = tail_is_greatest (record { prefix = prefix ++ gate_bounds c; clauses = circuit_clauses c out }) prefix (gate_bounds c) refl (gates_are_a_tail c out (prefix_variables prefix) is has)

-- ---- a form that a setup compiles to

abbrev circuit_form : List Bound → Circuit → Wire → Formula
circuit_form prefix c out = record { prefix = prefix ++ gate_bounds c; clauses = circuit_clauses c out }

pub compiled_is_small : (s : Setup) (prefix : List Bound) (c : Circuit) (out : Wire) → length prefix ≡ inputs_of s → length (gate_bounds c) ≤ gate_limit s → is_small (circuit_form prefix c out) s ≡ true
unfolding is_small
compiled_is_small s prefix c out count few =
    let whole = length-append prefix (gate_bounds c) in
    let rest = length-drop (inputs_of s) (prefix ++ gate_bounds c) in
    le-leb (length (drop (inputs_of s) (prefix ++ gate_bounds c))) (gate_limit s) (omega (arith, count, few, whole, rest))

pub compiled_bound : (s : Setup) (prefix : List Bound) (c : Circuit) (out : Wire) → IsCircuit c → length prefix ≡ inputs_of s → length (gate_bounds c) ≤ gate_limit s → ((v : ℕ) → 1 ≤ v → v ≤ c.inputs → has_number (prefix_variables prefix) v ≡ true) → bound (circuit_form prefix c out) ≤ game_bound s
compiled_bound s prefix c out is count few has =
    let tail = circuit_tail prefix c out is has in
    let whole = length-append prefix (gate_bounds c) in
    small_form_bound (circuit_form prefix c out) s (compiled_is_small s prefix c out count few) (omega (arith, count, whole, tail))
