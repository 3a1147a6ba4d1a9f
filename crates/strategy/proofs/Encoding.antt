-- The form of a circuit that meets the conditions of a setup encodes it.
use Rattle.std.proofs.Common.{◌≡◌, ◌≢◌, ℕ, zero, suc, ◌+◌, ◌-◌, ◌≤◌, true, List, [], ◌∷◌, ◌++◌, length, length-append, inl, refl, sym, ap, ap₂, subst, ◌∙◌, arith, le-leb}
use Rattle.std.specs.Prelude.{AllPairs}
use Rattle.std.specs.List.{range_with_len}
use Rattle.std.proofs.lemmas.Bool.{and_from}
use Rattle.std.proofs.lemmas.List.{append-nil, length-map}
use Rattle.bddl_model.specs.declared.circuit.Wire.{Wire}
use Rattle.bddl_model.specs.declared.formula.Bound.{Bound}
use Rattle.bddl_model.specs.declared.formula.Quant.TheVariants.{Exists}
use Rattle.bddl_model.specs.declared.formula.Block.{Block}
use Rattle.bddl_model.specs.Circuit.{Circuit, IsCircuit, IsWire, nodes_of, holds, circuit_clauses}
use Rattle.bddl_model.specs.CircuitValues.{gate_bounds}
use Rattle.bddl_model.specs.Encodes.{Encodes}
use Rattle.bddl_model.specs.Encoding.{MeetsConditions, layout_of, circuit_form}
use Rattle.bddl_model.specs.Forms.{has_number, AllInRange, AllApart, IsForm, greatest_variables, prefix_variables}
use Rattle.bddl_model.specs.Layout.{blocks, bounds, prefix_of, span, block}
use Rattle.bddl_model.specs.Prenex.{Cover, with_gates}
use Rattle.bddl_model.specs.Setup.{Setup}
use Rattle.bddl_model.specs.Size.{gate_limit}
use Rattle.bddl_model.specs.Tail.{tail_length}
use Rattle.bddl_model.specs.Truth.{Formula, no_values}
use Rattle.bddl_model.specs.Win.{win}
use Rattle.bddl_model.proofs.CircuitForms.{circuit_fits, clauses_counted}
use Rattle.bddl_model.proofs.Counted.{counted, counted-append, variables-bounds, variables-append, not_counted, among_counted}
use Rattle.bddl_model.proofs.Covering.{counted-range, prefix_of-append}
use Rattle.bddl_laws.proofs.CircuitTails.{circuit_tail, compiled_is_small, compiled_bound}
use Rattle.bddl_laws.proofs.ExactLayout.{exact_form}
use Rattle.bddl_laws.proofs.SharedGates.{circuit_gates_apart}

-- ---- numbers one after the other

counted_in_range : (most v n : ℕ) → 1 ≤ v → v + n ≤ suc most → AllInRange most (counted v n)
counted_in_range most v zero low high = tt
counted_in_range most v (suc n) low high = (and_from _ _ (le-leb 1 v low) (le-leb v most (omega arith)), counted_in_range most (suc v) n (omega arith) (omega arith))

counted_apart : (v n : ℕ) → AllApart (counted v n)
counted_apart v zero = tt
counted_apart v (suc n) = (not_counted (suc v) n v (inl (omega arith)), counted_apart (suc v) n)

counted_length : (v n : ℕ) → length (counted v n) ≡ n
counted_length v zero = refl
counted_length v (suc n) = ap suc (counted_length (suc v) n)

prefix_length : (bs : List Bound) (v n : ℕ) → prefix_variables bs ≡ counted v n → length bs ≡ n
prefix_length bs v n e = sym (length-map bs (λ (b : Bound). b.var.0)) ∙ ap length e ∙ counted_length v n

-- ---- the form of a circuit whose inputs are those of the layout, bound by its blocks

module _ (s : Setup) (c : Circuit) (out : Wire) (order : IsCircuit c) (wire : IsWire c out) (inputs : c.inputs ≡ (layout_of s).inputs) (cover : Cover (blocks (layout_of s)) (layout_of s).inputs) where
  abbrev front : List Bound
  front = prefix_of (blocks (layout_of s))

  abbrev form : Formula
  form = circuit_form s c out

  front_counted : prefix_variables front ≡ counted 1 c.inputs
  front_counted = cover ∙ sym (counted-range 1 (layout_of s).inputs) ∙ ap (counted 1) (sym inputs)

  front_has : (v : ℕ) → 1 ≤ v → v ≤ c.inputs → has_number (prefix_variables front) v ≡ true
  front_has v low high = ap (λ vs. has_number vs v) front_counted ∙ among_counted 1 c.inputs v low (omega arith)

  -- the inputs, and behind them the gates
  form_counted : prefix_variables form.prefix ≡ counted 1 (nodes_of c)
  form_counted =
      let all : c.inputs + suc (length c.gates) ≡ nodes_of c = omega arith in
      variables-append front (gate_bounds c)
      ∙ ap₂ (λ x y. x ++ y) front_counted (variables-bounds Exists (suc c.inputs) (suc (length c.gates)))
      ∙ counted-append 1 c.inputs (suc (length c.gates)) (suc c.inputs) (omega arith)
      ∙ ap (counted 1) all

  form_is_proper : nodes_of c ≤ greatest_variables → IsForm form
  form_is_proper few = record {
    in_range = subst (AllInRange greatest_variables) (sym form_counted) (counted_in_range greatest_variables 1 (nodes_of c) (omega arith) (omega arith));
    apart = subst AllApart (sym form_counted) (counted_apart 1 (nodes_of c));
    clauses = circuit_fits form.prefix c out form_counted order wire;
  }

  front_length : length front ≡ (layout_of s).inputs
  front_length = prefix_length front 1 c.inputs front_counted ∙ inputs

  gates_length : length (gate_bounds c) ≡ suc (length c.gates)
  gates_length = prefix_length (gate_bounds c) (suc c.inputs) (suc (length c.gates)) (variables-bounds Exists (suc c.inputs) (suc (length c.gates)))

  -- all variables behind the inputs are gates of the tail
  form_is_gates : length form.prefix ≤ (layout_of s).inputs + tail_length form
  form_is_gates =
      let tail = circuit_tail front c out order front_has in
      let whole = length-append front (gate_bounds c) in
      omega (arith, tail, whole, front_length)

  circuit_encodes : MeetsConditions s (holds c out) → AllPairs (λ g h. g ≢ h) c.gates → suc (length c.gates) ≤ gate_limit s → nodes_of c ≤ greatest_variables → Encodes form s
  circuit_encodes met apart small few =
      let exact = exact_form s c out order wire inputs met in
      let gates : length (gate_bounds c) ≤ gate_limit s = omega (arith, gates_length, small) in
      let none_gone : s.depth - 0 ≡ s.depth = omega arith in
      record {
        proper = form_is_proper few;
        few = omega (arith, clauses_counted c out, few);
        value = exact.1.won no_values [] (omega arith, tt) ∙ ap (win s.game s.first s.board) none_gone;
        exact = exact;
        small = compiled_is_small s front c out front_length gates;
        gates = form_is_gates;
        bounded = compiled_bound s front c out order front_length gates front_has;
        apart = circuit_gates_apart front c out order apart (cover ∙ ap (range_with_len 1) (sym inputs));
      }

  -- the gates as one more block behind those of the inputs
  whole_prefix : (bs : List Block) (gates : ℕ) → bs ≡ blocks (layout_of s) → gates ≡ suc (length c.gates) → prefix_of (with_gates bs c.inputs gates) ≡ form.prefix
  whole_prefix bs gates same count =
      let next : c.inputs + 1 ≡ suc c.inputs = omega arith in
      prefix_of-append bs (block Exists (span (c.inputs + 1) gates) ∷ [])
      ∙ ap₂ (λ x y. x ++ y) (ap prefix_of same) (append-nil (bounds Exists (c.inputs + 1) gates) ∙ ap₂ (bounds Exists) next count)

  -- so under a prefix that is made of those blocks, the clauses encode the setup
  pub prefix_encodes : MeetsConditions s (holds c out) → AllPairs (λ g h. g ≢ h) c.gates → suc (length c.gates) ≤ gate_limit s → nodes_of c ≤ greatest_variables
      → (bs : List Block) (gates : ℕ) (prefix : List Bound) → bs ≡ blocks (layout_of s) → gates ≡ suc (length c.gates) → prefix ≡ prefix_of (with_gates bs c.inputs gates)
      → Encodes (record { prefix = prefix; clauses = circuit_clauses c out }) s
  prefix_encodes met apart small few bs gates prefix same count e =
      subst (λ p. Encodes (record { prefix = p; clauses = circuit_clauses c out }) s) (sym (e ∙ whole_prefix bs gates same count)) (circuit_encodes met apart small few)
