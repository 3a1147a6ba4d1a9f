-- A circuit after the gate of two wires was put among its gates: the gate was there, or comes at the end.
use Rattle.std.proofs.Common.{◌≡◌, ◌≢◌, ◌⊎◌, inl, inr, ℕ, suc, ◌+◌, ◌-◌, ◌<◌, ◌≤◌, Bool, true, false, ◌&&◌, List, [], ◌∷◌, ◌++◌, length, get_or, slice_get, All, Some, if◌then◌else◌, refl, sym, ap, ap₂, ◌∙◌, subst, arith, append-nil, length-append}
use Rattle.std.specs.List.{list_any, IsDistinct}
use Rattle.std.proofs.Math.Bool.{and_comm}
use Rattle.std.proofs.lemmas.Bool.{cases_lt, false≢true}
use Rattle.std.proofs.lemmas.Option.{slice_get-get_or, get_or_from_slice_get}
use Rattle.std.proofs.lemmas.List.{get_or_append_left}
use Rattle.std.proofs.lemmas.List.Elements.{All-push}
use Rattle.std.proofs.lemmas.Map.Made.{AllPairs-from_IsDistinct}
use Rattle.indexmap.specs.IndexSet.{insert_key}
use Rattle.bddl_model.specs.declared.circuit.Wire.{Wire}
use Rattle.bddl_model.specs.declared.circuit.Gate.{Gate}
use Rattle.bddl_model.specs.Truth.{Assignment}
use Rattle.bddl_model.specs.Circuit.{Circuit, Ordered, nodes_of, IsWire, holds}
use Rattle.bddl_model.specs.Forms.{greatest_variables}
use Rattle.bddl_model.specs.Growth.{HasRoom, Grows}
use Rattle.circuit_dag.specs.Gates.{needs_gate, gate_of, gate_at, IsShared}
use Rattle.circuit_dag.proofs.Appended.{Joins, joined_held, joined_ordered, grows_by}
use Rattle.circuit_dag.proofs.Standing.{standing_held}
use Rattle.circuit_dag.proofs.Places.{same_gate, same_gate-decides, standing_found, one_place, at_place, at_node, joins}

-- the gates before and after, and the gate's place among them
abbrev pub Inserted : List Gate → Gate → List Gate → ℕ → Type 0
Inserted old g new i = (new ≡ old) × (slice_get old i ≡ Some g) ⊎ (new ≡ old ++ g ∷ []) × (i ≡ length old) × ((k : ℕ) → slice_get old k ≢ Some g)

pub inserted : (old : List Gate) (g : Gate) (new : List Gate) (i : ℕ) (stored : Gate) → new ≡ insert_key same_gate old g → slice_get new i ≡ Some stored → same_gate g stored ≡ true → i < length new → Inserted old g new i
inserted old g new i stored e h s lt = go (list_any (same_gate g) old) refl e
  where
    here : slice_get new i ≡ Some g
    here = h ∙ ap Some (sym ((same_gate-decides g stored).0 s))

    absent : list_any (same_gate g) old ≡ false → (k : ℕ) → slice_get old k ≢ Some g
    absent n k f = false≢true (sym n ∙ standing_found old k g f)

    last : new ≡ old ++ g ∷ [] → list_any (same_gate g) old ≡ false → (i < length old) ⊎ (length old ≤ i) → i ≡ length old
    last m n (inl low) = absurd (absent n i (slice_get-get_or old i g low ∙ ap Some (sym (get_or_append_left old (g ∷ []) g i low) ∙ ap (λ gs. get_or gs i g) (sym m) ∙ get_or_from_slice_get new i g g here)))
    last m n (inr high) = omega (arith, high, lt, ap length m, length-append old (g ∷ []))

    go : (b : Bool) → list_any (same_gate g) old ≡ b → new ≡ (if b then old else old ++ g ∷ []) → Inserted old g new i
    go true n m = inl (m, ap (λ gs. slice_get gs i) (sym m) ∙ here)
    go false n m = inr (m, last m n (cases_lt i (length old)), absent n)

joined_either : (g : Gate) (v w : Wire) (value : Wire → Bool) → Joins g v w → (value g.left && value g.right) ≡ (value v && value w)
joined_either g v w value (inl j) = ap₂ (λ x y. value x && value y) j.0 j.1
joined_either g v w value (inr j) = ap₂ (λ x y. value x && value y) j.0 j.1 ∙ and_comm (value w) (value v)

pub record AfterGate (c : Circuit) (v w : Wire) (gates : List Gate) (i : ℕ) : Type 0 where
  pub shared : IsShared (record { inputs = c.inputs; gates = gates })
  pub grows : Grows 1 c (record { inputs = c.inputs; gates = gates })
  pub value : (x : Wire) (a : Assignment) → x.node.0 ≡ suc c.inputs + i → x.negated ≡ false → holds (record { inputs = c.inputs; gates = gates }) x a ≡ (holds c v a && holds c w a)
  pub known : (n : ℕ) → gate_at c n ≡ Some (gate_of v w) → (suc c.inputs + i ≡ n) × (gates ≡ c.gates)
  pub fresh : ((n : ℕ) → gate_at c n ≢ Some (gate_of v w)) → (i ≡ length c.gates) × (gates ≡ c.gates ++ gate_of v w ∷ [])

module _ (c : Circuit) (v w : Wire) (gates : List Gate) (i : ℕ) (needs : needs_gate v w ≡ true) (shared : IsShared c) (iv : IsWire c v) (iw : IsWire c w) (room : HasRoom c 1) (apart : IsDistinct same_gate gates) where
  abbrev g : Gate
  g = gate_of v w

  joined : Joins g v w × (1 ≤ g.left.node.0)
  joined = joins v w needs

  abbrev new : Circuit
  new = record { inputs = c.inputs; gates = gates }

  within : Grows 1 c new → nodes_of new ≤ greatest_variables
  within grows = omega (arith, grows.room, room)

  pub after_gate : Inserted c.gates g gates i → AfterGate c v w gates i
  after_gate (inl p) =
      let grows : Grows 1 c new = grows_by 1 c new [] refl (p.0 ∙ sym (append-nil c.gates)) (omega arith) in
      record {
        shared = record {
          inputs = shared.inputs;
          nodes = within grows;
          order = subst (λ gs. Ordered gs (suc c.inputs)) (sym p.0) shared.order;
          proper = subst (All (λ h. 1 ≤ h.left.node.0)) (sym p.0) shared.proper;
          apart = AllPairs-from_IsDistinct same_gate-decides gates apart;
        };
        grows = grows;
        value = λ x a e n.
            ap (λ gs. holds (record { inputs = c.inputs; gates = gs }) x a) p.0
            ∙ standing_held c i g x a shared.order p.1 e n
            ∙ joined_either g v w (λ y. holds c y a) joined.0;
        known = λ n h. let there = at_place c n g h in (omega (arith, there.0, one_place c.gates i (n - suc c.inputs) g shared.apart p.1 there.1), p.0);
        fresh = λ none. absurd (none (suc c.inputs + i) (at_node c i g p.1));
      }
  after_gate (inr p) =
      let grows : Grows 1 c new = grows_by 1 c new (g ∷ []) refl p.0 (omega arith) in
      record {
        shared = record {
          inputs = shared.inputs;
          nodes = within grows;
          order = joined_ordered c new v w g joined.0 refl p.0 iv iw shared.order;
          proper = subst (All (λ h. 1 ≤ h.left.node.0)) (sym p.0) (All-push (λ h. 1 ≤ h.left.node.0) c.gates g shared.proper joined.1);
          apart = AllPairs-from_IsDistinct same_gate-decides gates apart;
        };
        grows = grows;
        value = λ x a e n. joined_held c new v w g x a joined.0 refl p.0 (omega (arith, e, p.1)) n;
        known = λ n h. absurd (p.2 (n - suc c.inputs) (at_place c n g h).1);
        fresh = λ none. (p.1, p.0);
      }
