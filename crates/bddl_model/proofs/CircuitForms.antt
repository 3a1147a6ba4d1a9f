-- The clauses of a circuit fit the prefix of all its variables.
use Rattle.std.proofs.Common.{◌≡◌, ◌≢◌, ℕ, zero, suc, ◌+◌, ◌*◌, ◌<◌, ◌≤◌, true, List, [], ◌∷◌, length, ⊎_elim, refl, sym, arith, ne_eqb, lt-ltb, le-ltb}
use Rattle.std.proofs.lemmas.Bool.{or_from, cases_lt}
use Rattle.bddl_model.specs.declared.formula.Bound.{Bound}
use Rattle.bddl_model.specs.declared.formula.Lit.{Lit}
use Rattle.bddl_model.specs.declared.circuit.Wire.{Wire}
use Rattle.bddl_model.specs.Truth.{negation}
use Rattle.bddl_model.specs.Forms.{has_number, AllFitPrefix, FitsPrefix, prefix_variables}
use Rattle.bddl_model.specs.declared.circuit.Gate.{Gate}
use Rattle.bddl_model.specs.Circuit.{Circuit, IsCircuit, IsWire, Ordered, variable_of, literal_of, positive, gates_clauses, output_clause, circuit_clauses}
use Rattle.bddl_model.proofs.Counted.{counted, among_counted}
use Rattle.bddl_model.proofs.Tseitin.{var_below}

-- ---- the variables of nodes

var_some : (inputs k : ℕ) → 1 ≤ variable_of inputs k
var_some inputs zero = omega arith
var_some inputs (suc k) = ⊎_elim (λ l. rw (lt-ltb k inputs l) (omega arith)) (λ g. rw (le-ltb k inputs g) (omega arith)) (cases_lt k inputs)

-- a later node that is not the true one has a variable of its own
pub var_apart : (inputs j k : ℕ) → j < k → variable_of inputs j ≢ variable_of inputs k
var_apart inputs j zero lt = absurd (omega arith)
var_apart inputs zero (suc k) lt = ⊎_elim (λ l. rw (lt-ltb k inputs l) (λ e. omega arith)) (λ g. rw (le-ltb k inputs g) (λ e. omega arith)) (cases_lt k inputs)
var_apart inputs (suc j) (suc k) lt = ⊎_elim
    (λ l. let m : j < inputs = omega arith in rw (lt-ltb k inputs l, lt-ltb j inputs m) (λ e. omega arith))
    (λ g. rw (le-ltb k inputs g) (⊎_elim (λ l. rw (lt-ltb j inputs l) (λ e. omega arith)) (λ h. rw (le-ltb j inputs h) (λ e. omega arith)) (cases_lt j inputs)))
    (cases_lt k inputs)

-- ---- clauses over the variables from 1 on

module _ (bs : List Bound) (total : ℕ) (e : prefix_variables bs ≡ counted 1 total) where
  among : (v : ℕ) → 1 ≤ v → v ≤ total → has_number (prefix_variables bs) v ≡ true
  among v low high = rw e (among_counted 1 total v low (omega arith))

  one_fits : (l : Lit) → 1 ≤ l.var.0 → l.var.0 ≤ total → FitsPrefix bs (l ∷ [])
  one_fits l low high = ((among l.var.0 low high, tt), (refl, tt))

  two_fit : (l m : Lit) → 1 ≤ l.var.0 → l.var.0 ≤ total → 1 ≤ m.var.0 → m.var.0 ≤ total → m.var.0 ≢ l.var.0 → FitsPrefix bs (l ∷ m ∷ [])
  two_fit l m a b c d apart = ((among l.var.0 a b, (among m.var.0 c d, tt)), (or_from _ _ (ne_eqb m.var.0 l.var.0 apart) refl, (refl, tt)))

  three_fit : (l m n : Lit) → 1 ≤ l.var.0 → l.var.0 ≤ total → 1 ≤ m.var.0 → m.var.0 ≤ total → 1 ≤ n.var.0 → n.var.0 ≤ total → m.var.0 ≢ l.var.0 → n.var.0 ≢ l.var.0 → n.var.0 ≢ m.var.0 → FitsPrefix bs (l ∷ m ∷ n ∷ [])
  three_fit l m n a b c d f g p q r = (
    (among l.var.0 a b, (among m.var.0 c d, (among n.var.0 f g, tt))),
    (or_from _ _ (ne_eqb m.var.0 l.var.0 p) (or_from _ _ (ne_eqb n.var.0 l.var.0 q) refl), (or_from _ _ (ne_eqb n.var.0 m.var.0 r) refl, (refl, tt))),
  )

  gates_fit : (inputs : ℕ) (gs : List Gate) (n : ℕ) (rest : List (List Lit)) → inputs < n → Ordered gs n → n + length gs ≤ total → AllFitPrefix bs rest → AllFitPrefix bs (gates_clauses inputs gs (suc n) rest)
  gates_fit inputs [] n rest i o h fit = fit
  gates_fit inputs (g ∷ gs) n rest i o h fit =
      let x = variable_of inputs g.left.node.0 in
      let y = variable_of inputs g.right.node.0 in
      let lx = var_some inputs g.left.node.0 in
      let ly = var_some inputs g.right.node.0 in
      let hx : x < suc n = var_below inputs g.left.node.0 n i (omega (arith, o.0, o.1)) in
      let hy : y < suc n = var_below inputs g.right.node.0 n i o.1 in
      let xy = var_apart inputs g.left.node.0 g.right.node.0 o.0 in
      let first = two_fit (negation (positive (suc n))) (literal_of inputs g.left) (omega arith) (omega (arith, h)) lx (omega (arith, h, hx)) (λ q. omega (arith, hx, q)) in
      let second = two_fit (negation (positive (suc n))) (literal_of inputs g.right) (omega arith) (omega (arith, h)) ly (omega (arith, h, hy)) (λ q. omega (arith, hy, q)) in
      let third = three_fit (positive (suc n)) (negation (literal_of inputs g.left)) (negation (literal_of inputs g.right)) (omega arith) (omega (arith, h)) lx (omega (arith, h, hx)) ly (omega (arith, h, hy)) (λ q. omega (arith, hx, q)) (λ q. omega (arith, hy, q)) (λ q. xy (sym q)) in
      (first, (second, (third, gates_fit inputs gs (suc n) rest (omega arith) o.2 (omega (arith, h)) fit)))

pub circuit_fits : (bs : List Bound) (c : Circuit) (out : Wire) → prefix_variables bs ≡ counted 1 (suc c.inputs + length c.gates) → IsCircuit c → IsWire c out → AllFitPrefix bs (circuit_clauses c out)
circuit_fits bs c out e o w = (
  one_fits bs (suc c.inputs + length c.gates) e (positive (suc c.inputs)) (omega arith) (omega arith),
  gates_fit bs (suc c.inputs + length c.gates) e c.inputs c.gates (suc c.inputs) (output_clause c.inputs out) (omega arith) o (omega arith)
      (one_fits bs (suc c.inputs + length c.gates) e (literal_of c.inputs out) (var_some c.inputs out.node.0) (out_below out.node.0 w), tt),
)
  where
    out_below : (k : ℕ) → k < suc c.inputs + length c.gates → variable_of c.inputs k ≤ suc c.inputs + length c.gates
    out_below k lt = let b : variable_of c.inputs k < suc (suc c.inputs + length c.gates) = var_below c.inputs k (suc c.inputs + length c.gates) (omega arith) lt in omega (arith, b)

-- three clauses for each gate, and two more
gates_clauses_counted : (inputs : ℕ) (gs : List Gate) (v : ℕ) (rest : List (List Lit)) → length (gates_clauses inputs gs v rest) ≡ 3 * length gs + length rest
gates_clauses_counted inputs [] v rest = omega arith
gates_clauses_counted inputs (g ∷ gs) v rest = let more = gates_clauses_counted inputs gs (suc v) rest in omega (arith, more)

pub clauses_counted : (c : Circuit) (out : Wire) → length (circuit_clauses c out) ≡ 3 * length c.gates + 2
clauses_counted c out = let gates = gates_clauses_counted c.inputs c.gates (suc (suc c.inputs)) (output_clause c.inputs out) in omega (arith, gates)
