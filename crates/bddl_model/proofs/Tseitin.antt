-- The clauses of a circuit hold for some values of the gate variables exactly where its output does.
use Rattle.std.proofs.Common.{◌≡◌, ◌≢◌, ℕ, zero, suc, ◌≤◌, ◌<◌, ◌+◌, Bool, true, false, not, ◌&&◌, ◌||◌, List, [], ◌∷◌, ◌++◌, length, if◌then◌else◌, inl, ⊎_elim, refl, sym, ap, ap₂, ◌∙◌, arith, eqb-true, eq-eqb, ne_eqb, lt-ltb, le-ltb}
use Rattle.std.specs.Prelude.{◌==◌}
use Rattle.std.proofs.lemmas.Bool.{or_parts, false≢true, cases_lt}
use Rattle.std.proofs.Math.Bool.{or-false, and-true}
use mathlib.Core.Path.{fun_ext}
use Rattle.bddl_model.specs.declared.formula.Quant.{Quant}
use Rattle.bddl_model.specs.declared.formula.Quant.TheVariants.{Exists, All}
use Rattle.bddl_model.specs.declared.formula.Bound.{Bound}
use Rattle.bddl_model.specs.declared.formula.Lit.{Lit}
use Rattle.bddl_model.specs.declared.circuit.Wire.{Wire}
use Rattle.bddl_model.specs.Truth.{Assignment, assign, join, value, literal_true, negation, clauses_true}
use Rattle.bddl_model.specs.Layout.{bounds}
use Rattle.bddl_model.specs.declared.circuit.Gate.{Gate}
use Rattle.bddl_model.specs.Circuit.{Circuit, IsCircuit, IsWire, Ordered, wire_true, gate_values, holds, variable_of, literal_of, gate_clauses, gates_clauses, output_clause, circuit_clauses}
use Rattle.bddl_model.proofs.Assignments.{SameOutside, assign_same, assign_other, value-append}
use Rattle.bddl_model.proofs.Blocks.{not_bound}

-- both are true, or neither is
abbrev agree : Bool → Bool → Bool
agree true b = b
agree false b = not b

pub negation_true : (a : Assignment) (l : Lit) → literal_true a (negation l) ≡ not (literal_true a l)
negation_true a l = go l.negated (a l.var.0)
  where
    go : (n t : Bool) → (if not n then not t else t) ≡ not (if n then not t else t)
    go true true = refl
    go true false = refl
    go false t = refl

-- a test that the quantifiers don't touch
abbrev Stable : List Bound → (Assignment → Bool) → Type 0
Stable rest c = (a b : Assignment) → SameOutside rest a b → c a ≡ c b

stable_rest : (x : Bound) (rest : List Bound) (c : Assignment → Bool) → Stable (x ∷ rest) c → Stable rest c
stable_rest x rest c s a b h = s a b (λ w o. h w (or_parts _ _ o).1)

stable_assign : (x : Bound) (rest : List Bound) (c : Assignment → Bool) (v : Bool) (a : Assignment) → Stable (x ∷ rest) c → c (assign x.var.0 v a) ≡ c a
stable_assign x rest c v a s = s _ _ (λ w o. assign_other x.var.0 v a w (or_parts _ _ o).0)

pub pulled_out : (rest : List Bound) (c m : Assignment → Bool) (a : Assignment) → Stable rest c → value rest (λ b. c b && m b) a ≡ (c a && value rest m a)
pulled_out [] c m a s = refl
pulled_out (x ∷ rest) c m a s =
    ap₂ (join x.quant)
    (pulled_out rest c m _ (stable_rest x rest c s) ∙ ap (λ t. t && value rest m (assign x.var.0 true a)) (stable_assign x rest c true a s))
    (pulled_out rest c m _ (stable_rest x rest c s) ∙ ap (λ t. t && value rest m (assign x.var.0 false a)) (stable_assign x rest c false a s))
    ∙ go x.quant (c a)
  where
    go : (q : Quant) (t : Bool) → join q (t && value rest m (assign x.var.0 true a)) (t && value rest m (assign x.var.0 false a)) ≡ (t && join q (value rest m (assign x.var.0 true a)) (value rest m (assign x.var.0 false a)))
    go Exists true = refl
    go Exists false = refl
    go All true = refl
    go All false = refl

-- one value of a variable that is defined
one_point : (w : Bool) (f : Bool → Bool) → ((agree true w && f true) || (agree false w && f false)) ≡ f w
one_point true f = or-false (f true)
one_point false f = refl

-- the three clauses of a definition
three : (g x y r : Bool) → ((not g || (x || false)) && ((not g || (y || false)) && ((g || (not x || (not y || false))) && r))) ≡ (agree g (x && y) && r)
three true true true r = refl
three true true false r = refl
three true false true r = refl
three true false false r = refl
three false true true r = refl
three false true false r = refl
three false false true r = refl
three false false false r = refl

-- a literal of an earlier variable
literal_stable : (v n : ℕ) (l : Lit) (a b : Assignment) → l.var.0 < v → SameOutside (bounds Exists v n) a b → literal_true a l ≡ literal_true b l
literal_stable v n l a b lt s = ap (λ x. if l.negated then not x else x) (s l.var.0 (not_bound Exists n v l.var.0 (inl lt)))

gate_stable : (v n : ℕ) (x y : Lit) → x.var.0 < v → y.var.0 < v → Stable (bounds Exists (suc v) n) (λ b. agree (b v) (literal_true b x && literal_true b y))
gate_stable v n x y lx ly a b s =
    ap₂ agree (s v (not_bound Exists n (suc v) v (inl (omega arith))))
    (ap₂ (λ s t. s && t) (literal_stable (suc v) n x a b (omega arith) s) (literal_stable (suc v) n y a b (omega arith) s))

literal_assign : (v : ℕ) (b : Bool) (l : Lit) (a : Assignment) → l.var.0 < v → literal_true (assign v b a) l ≡ literal_true a l
literal_assign v b l a lt = ap (λ x. if l.negated then not x else x) (assign_other v b a l.var.0 (ne_eqb v l.var.0 (λ e. omega arith)))

-- the values of the nodes, from those of the variables
pub nodes : ℕ → Assignment → Assignment
nodes inputs a n = a (variable_of inputs n)

pub var_below : (inputs k n : ℕ) → inputs < n → k < n → variable_of inputs k < suc n
var_below inputs zero n i lt = omega arith
var_below inputs (suc k) n i lt = ⊎_elim (λ b. rw (lt-ltb k inputs b) (omega arith)) (λ b. rw (le-ltb k inputs b) (omega arith)) (cases_lt k inputs)

pub var_gate : (inputs n : ℕ) → inputs < n → variable_of inputs n ≡ suc n
var_gate inputs zero i = absurd (omega arith)
var_gate inputs (suc n) i = let le : inputs ≤ n = omega arith in rw (le-ltb n inputs le)

var_other : (inputs k n : ℕ) → inputs < n → (k == n) ≡ false → (variable_of inputs k == suc n) ≡ false
var_other inputs zero n i ne = ne_eqb _ _ (λ e. omega arith)
var_other inputs (suc k) n i ne = ⊎_elim (λ b. rw (lt-ltb k inputs b) (ne_eqb _ _ (λ e. omega arith))) (λ b. rw (le-ltb k inputs b) (ne_eqb _ _ (λ e. false≢true (sym ne ∙ eq-eqb (suc k) n (omega arith))))) (cases_lt k inputs)

nodes_assign : (inputs n : ℕ) (b : Bool) (a : Assignment) → inputs < n → nodes inputs (assign (suc n) b a) ≡ assign n b (nodes inputs a)
unfolding nodes
nodes_assign inputs n b a i = fun_ext (λ k. at k (k == n) refl)
  where
    at : (k : ℕ) (t : Bool) → (k == n) ≡ t → assign (suc n) b a (variable_of inputs k) ≡ assign n b (nodes inputs a) k
    at k true e = rw e (ap (assign (suc n) b a) (ap (variable_of inputs) (eqb-true k n e) ∙ var_gate inputs n i) ∙ assign_same (suc n) b a)
    at k false e = rw (e, var_other inputs k n i e)

module _ (inputs : ℕ) (out : Wire) where
  -- one gate: the variable is what its operands make it
  one_gate : (g : Gate) (gs : List Gate) (n : ℕ) (a : Assignment) (b : Bool) → inputs < n → g.left.node.0 < n → g.right.node.0 < n
      → ((a : Assignment) → value (bounds Exists (suc (suc n)) (length gs)) (clauses_true (gates_clauses inputs gs (suc (suc n)) (output_clause inputs out))) a ≡ wire_true (gate_values gs (suc n) (nodes inputs a)) out)
      → value (bounds Exists (suc (suc n)) (length gs)) (clauses_true (gates_clauses inputs (g ∷ gs) (suc n) (output_clause inputs out))) (assign (suc n) b a)
      ≡ (agree b (literal_true a (literal_of inputs g.left) && literal_true a (literal_of inputs g.right)) && wire_true (gate_values gs (suc n) (assign n b (nodes inputs a))) out)
  one_gate g gs n a b i l r next =
      let x = literal_of inputs g.left in
      let y = literal_of inputs g.right in
      let lx : variable_of inputs g.left.node.0 < suc n = var_below inputs g.left.node.0 n i l in
      let ly : variable_of inputs g.right.node.0 < suc n = var_below inputs g.right.node.0 n i r in
      ap (λ m. value (bounds Exists (suc (suc n)) (length gs)) m (assign (suc n) b a)) (fun_ext (λ c. clauses x y c))
      ∙ pulled_out (bounds Exists (suc (suc n)) (length gs)) (λ c. agree (c (suc n)) (literal_true c x && literal_true c y)) (clauses_true (gates_clauses inputs gs (suc (suc n)) (output_clause inputs out))) (assign (suc n) b a) (gate_stable (suc n) (length gs) x y lx ly)
      ∙ ap₂ (λ s t. s && t)
      (ap₂ agree (assign_same (suc n) b a) (ap₂ (λ s t. s && t) (literal_assign (suc n) b x a lx) (literal_assign (suc n) b y a ly)))
      (next (assign (suc n) b a) ∙ ap (λ v. wire_true (gate_values gs (suc n) v) out) (nodes_assign inputs n b a i))
    where
      clauses : (x y : Lit) (c : Assignment) → clauses_true (gate_clauses (suc n) x y (gates_clauses inputs gs (suc (suc n)) (output_clause inputs out))) c ≡ (agree (c (suc n)) (literal_true c x && literal_true c y) && clauses_true (gates_clauses inputs gs (suc (suc n)) (output_clause inputs out)) c)
      clauses x y c = rw (negation_true c x, negation_true c y) (three (c (suc n)) (literal_true c x) (literal_true c y) (clauses_true (gates_clauses inputs gs (suc (suc n)) (output_clause inputs out)) c))

  gates_hold : (gs : List Gate) (n : ℕ) (a : Assignment) → inputs < n → Ordered gs n → value (bounds Exists (suc n) (length gs)) (clauses_true (gates_clauses inputs gs (suc n) (output_clause inputs out))) a ≡ wire_true (gate_values gs n (nodes inputs a)) out
  unfolding nodes
  gates_hold [] n a i o = and-true (literal_true a (literal_of inputs out) || false) ∙ or-false (literal_true a (literal_of inputs out))
  gates_hold (g ∷ gs) n a i o =
      ap₂ (λ s t. s || t) (one_gate g gs n a true i (omega (arith, o.0, o.1)) o.1 (λ c. gates_hold gs (suc n) c (omega arith) o.2)) (one_gate g gs n a false i (omega (arith, o.0, o.1)) o.1 (λ c. gates_hold gs (suc n) c (omega arith) o.2))
      ∙ one_point (literal_true a (literal_of inputs g.left) && literal_true a (literal_of inputs g.right)) (λ b. wire_true (gate_values gs (suc n) (assign n b (nodes inputs a))) out)

-- the gates read earlier nodes alone
pub run_same : (gs : List Gate) (n : ℕ) (u w : Assignment) (out : Wire) → Ordered gs n → out.node.0 < n + length gs → ((k : ℕ) → k < n → u k ≡ w k) → wire_true (gate_values gs n u) out ≡ wire_true (gate_values gs n w) out
run_same [] n u w out o lt h = ap (λ x. if out.negated then not x else x) (h out.node.0 (omega arith))
run_same (g ∷ gs) n u w out o lt h = run_same gs (suc n) _ _ out o.2 (omega arith) step
  where
    read : (x : Wire) → x.node.0 < n → wire_true u x ≡ wire_true w x
    read x l = ap (λ t. if x.negated then not t else t) (h x.node.0 l)

    step : (k : ℕ) → k < suc n → assign n (wire_true u g.left && wire_true u g.right) u k ≡ assign n (wire_true w g.left && wire_true w g.right) w k
    step k l = at (k == n) refl
      where
        at : (t : Bool) → (k == n) ≡ t → assign n (wire_true u g.left && wire_true u g.right) u k ≡ assign n (wire_true w g.left && wire_true w g.right) w k
        at true e = rw e (ap₂ (λ s t. s && t) (read g.left (omega (arith, o.0, o.1))) (read g.right o.1))
        at false e = rw e (h k (let ne : k ≢ n = λ q. false≢true (sym e ∙ eq-eqb k n q) in omega arith))

truth_clause : (t r : Bool) → ((t || false) && r) ≡ (agree t true && r)
truth_clause true r = refl
truth_clause false r = refl

-- what the gate variables make of the clauses
pub circuit_value : (c : Circuit) (out : Wire) (a : Assignment) → IsCircuit c → IsWire c out → value (bounds Exists (suc c.inputs) (suc (length c.gates))) (clauses_true (circuit_clauses c out)) a ≡ holds c out a
unfolding nodes holds
circuit_value c out a o lt =
    ap₂ (λ s t. s || t) (branch true) (branch false)
    ∙ one_point true (λ b. wire_true (gate_values c.gates (suc c.inputs) (nodes c.inputs (assign (suc c.inputs) b a))) out)
    ∙ run_same c.gates (suc c.inputs) _ _ out o lt same
  where
    branch : (b : Bool) → value (bounds Exists (suc (suc c.inputs)) (length c.gates)) (clauses_true (circuit_clauses c out)) (assign (suc c.inputs) b a) ≡ (agree b true && wire_true (gate_values c.gates (suc c.inputs) (nodes c.inputs (assign (suc c.inputs) b a))) out)
    branch b =
        ap (λ m. value (bounds Exists (suc (suc c.inputs)) (length c.gates)) m (assign (suc c.inputs) b a)) (fun_ext (λ w. truth_clause (w (suc c.inputs)) (clauses_true (gates_clauses c.inputs c.gates (suc (suc c.inputs)) (output_clause c.inputs out)) w)))
        ∙ pulled_out (bounds Exists (suc (suc c.inputs)) (length c.gates)) (λ w. agree (w (suc c.inputs)) true) (clauses_true (gates_clauses c.inputs c.gates (suc (suc c.inputs)) (output_clause c.inputs out))) (assign (suc c.inputs) b a) (λ u w s. ap (λ t. agree t true) (s (suc c.inputs) (not_bound Exists (length c.gates) (suc (suc c.inputs)) (suc c.inputs) (inl (omega arith)))))
        ∙ ap₂ (λ s t. s && t) (ap (λ t. agree t true) (assign_same (suc c.inputs) b a)) (gates_hold c.inputs out c.gates (suc c.inputs) (assign (suc c.inputs) b a) (omega arith) o)

    same : (k : ℕ) → k < suc c.inputs → nodes c.inputs (assign (suc c.inputs) true a) k ≡ assign 0 true a k
    same zero l = assign_same (suc c.inputs) true a
    same (suc k) l = let lt : k < c.inputs = omega arith in rw (lt-ltb k c.inputs lt) (assign_other (suc c.inputs) true a (suc k) (ne_eqb (suc c.inputs) (suc k) (λ e. omega arith)) ∙ sym (assign_other 0 true a (suc k) (ne_eqb 0 (suc k) (λ e. omega arith))))

-- behind any quantifiers the clauses of a circuit under its gate variables have the value of its output
pub compiled_value : (prefix : List Bound) (c : Circuit) (out : Wire) (a : Assignment) → IsCircuit c → IsWire c out → value (prefix ++ bounds Exists (suc c.inputs) (suc (length c.gates))) (clauses_true (circuit_clauses c out)) a ≡ value prefix (holds c out) a
compiled_value prefix c out a o lt = value-append prefix _ _ a ∙ ap (λ m. value prefix m a) (fun_ext (λ b. circuit_value c out b o lt))
