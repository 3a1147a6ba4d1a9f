-- Where each clause stands among those of a circuit, and that it fits the prefix.
use Rattle.std.proofs.Common.{◌≡◌, ℕ, zero, suc, ◌+◌, ◌*◌, ◌-◌, ◌/◌, ◌%◌, ◌<◌, ◌≤◌, List, [], ◌∷◌, ◌++◌, length, take, slice_get, Option, Some, None, option_map, ⊎_elim, refl, sym, ap, subst, ◌∙◌, arith}
use Rattle.std.specs.List.{range_with_len}
use Rattle.std.proofs.lemmas.Bool.{cases_lt}
use Rattle.std.proofs.lemmas.List.{take_more}
use Rattle.std.proofs.lemmas.Option.{slice_get_within, get_or_from_slice_get}
use Rattle.bddl_model.specs.declared.formula.Bound.{Bound}
use Rattle.bddl_model.specs.declared.formula.Lit.{Lit}
use Rattle.bddl_model.specs.declared.circuit.Wire.{Wire}
use Rattle.bddl_model.specs.declared.circuit.Gate.{Gate}
use Rattle.bddl_model.specs.Circuit.{Circuit, IsCircuit, IsWire, nodes_of, literal_of, gate_clauses, gates_clauses, output_clause, circuit_clauses}
use Rattle.bddl_model.specs.Forms.{prefix_variables, FitsPrefix, AllFitPrefix}
use Rattle.bddl_model.proofs.CircuitForms.{circuit_fits, clauses_counted}
use Rattle.bddl_model.proofs.Covering.{counted-range}
use Rattle.circuit_dag.specs.Gates.{operands, gate_at}
use Rattle.circuit_dag.proofs.Places.{at_place}

-- ---- the clauses of the gates

-- the clauses of one gate, with or without others behind them
of_one_gate : (v : ℕ) (x y : Lit) (rest : List (List Lit)) (place : ℕ) → place < 3 → slice_get (gate_clauses v x y rest) place ≡ slice_get (gate_clauses v x y []) place
of_one_gate v x y rest zero h = refl
of_one_gate v x y rest (suc zero) h = refl
of_one_gate v x y rest (suc (suc zero)) h = refl
of_one_gate v x y rest (suc (suc (suc place))) h = absurd (omega arith)

of_gate : (inputs : ℕ) (gates : List Gate) (v : ℕ) (rest : List (List Lit)) (k n place : ℕ) (g : Gate) → slice_get gates k ≡ Some g → n ≡ v + k → place < 3
    → slice_get (gates_clauses inputs gates v rest) (3 * k + place) ≡ slice_get (gate_clauses n (literal_of inputs g.left) (literal_of inputs g.right) []) place
of_gate inputs [] v rest k n place g h variable small = absurd cc
of_gate inputs (f ∷ gates) v rest zero n place g h variable small =
    let same : f ≡ g = cc in
    let first : v ≡ n = omega arith in
    let number : 3 * 0 + place ≡ place = omega arith in
    let x = literal_of inputs g.left in
    let y = literal_of inputs g.right in
    rw (same, number) (of_one_gate v x y (gates_clauses inputs gates (suc v) rest) place small ∙ ap (λ u. slice_get (gate_clauses u x y []) place) first)
of_gate inputs (f ∷ gates) v rest (suc k) n place g h variable small =
    let number : 3 * suc k + place ≡ suc (suc (suc (3 * k + place))) = omega arith in
    rw number (of_gate inputs gates (suc v) rest k n place g h (omega arith) small)

behind_gates : (inputs : ℕ) (gates : List Gate) (v : ℕ) (rest : List (List Lit)) → slice_get (gates_clauses inputs gates v rest) (3 * length gates) ≡ slice_get rest 0
behind_gates inputs [] v rest = refl
behind_gates inputs (g ∷ gates) v rest =
    let number : 3 * suc (length gates) ≡ suc (suc (suc (3 * length gates))) = omega arith in
    rw number (behind_gates inputs gates (suc v) rest)

-- ---- the clauses of a circuit

gate_of_operands : (found : Option Gate) (v w : Wire) → Some (v, w) ≡ option_map operands found → found ≡ Some (record { left = v; right = w })
gate_of_operands (Some g) v w h = let e : operands g ≡ (v, w) = cc in ap (λ p. Some (record { left = p.0; right = p.1 })) e
gate_of_operands None v w h = absurd cc

-- a clause behind the first is of this node's gate, or of the output where the node is none of the circuit's
module _ (c : Circuit) (out : Wire) (number : ℕ) (later : 1 ≤ number) where
  abbrev node : ℕ
  node = c.inputs + 1 + (number - 1) / 3

  pub gate_found : (v w : Wire) → Some (v, w) ≡ option_map operands (gate_at c node)
      → slice_get (circuit_clauses c out) number ≡ slice_get (gate_clauses (node + 1) (literal_of c.inputs v) (literal_of c.inputs w) []) ((number - 1) % 3)
  gate_found v w found =
      let k = (number - 1) / 3 in
      let place = (number - 1) % 3 in
      let g : Gate = record { left = v; right = w } in
      let there = at_place c node g (gate_of_operands (gate_at c node) v w found) in
      let i : node - suc c.inputs ≡ k = omega arith in
      let n : number ≡ suc (3 * k + place) = omega arith in
      ap (slice_get (circuit_clauses c out)) n
      ∙ of_gate c.inputs c.gates (suc (suc c.inputs)) (output_clause c.inputs out) k (node + 1) place g (rw i at there.1) (omega arith) (omega arith)

  pub output_found : number < length (circuit_clauses c out) → ((c.inputs < node) × (node < nodes_of c) → ⊥) → slice_get (circuit_clauses c out) number ≡ Some (literal_of c.inputs out ∷ [])
  output_found within no_gate =
      let past : nodes_of c ≤ node = ⊎_elim (λ lt. absurd (no_gate (omega arith, lt))) (λ le. le) (cases_lt node (nodes_of c)) in
      let n : number ≡ suc (3 * length c.gates) = omega (arith, clauses_counted c out) in
      ap (slice_get (circuit_clauses c out)) n ∙ behind_gates c.inputs c.gates (suc (suc c.inputs)) (output_clause c.inputs out)

-- ---- one clause more

pub one_more : (clauses : List (List Lit)) (number : ℕ) (clause : List Lit) → slice_get clauses number ≡ Some clause → take (number + 1) clauses ≡ take number clauses ++ clause ∷ []
one_more clauses number clause h =
    take_more clauses number clause (slice_get_within clauses number clause h)
    ∙ ap (λ x. take number clauses ++ x ∷ []) (get_or_from_slice_get clauses number clause clause h)

-- ---- the clauses under the prefix

fits_at : (bounds : List Bound) (clauses : List (List Lit)) (number : ℕ) (clause : List Lit) → AllFitPrefix bounds clauses → slice_get clauses number ≡ Some clause → FitsPrefix bounds clause
fits_at bounds [] number clause fit h = absurd cc
fits_at bounds (first ∷ clauses) zero clause fit h = let e : first ≡ clause = cc in subst (FitsPrefix bounds) e fit.0
fits_at bounds (first ∷ clauses) (suc number) clause fit h = fits_at bounds clauses number clause fit.1 h

pub clause_fits : (bounds : List Bound) (c : Circuit) (out : Wire) (number : ℕ) (clause : List Lit) → prefix_variables bounds ≡ range_with_len 1 (nodes_of c) → IsCircuit c → IsWire c out
    → slice_get (circuit_clauses c out) number ≡ Some clause → FitsPrefix bounds clause
clause_fits bounds c out number clause e order wire =
    fits_at bounds (circuit_clauses c out) number clause (circuit_fits bounds c out (e ∙ sym (counted-range 1 (nodes_of c))) order wire)
