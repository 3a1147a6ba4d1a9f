-- Gates that come at the end of a circuit leave the values of its nodes, and the last one holds where both of its operands do.
use Rattle.std.proofs.Common.{◌⊎◌, inl, inr, ◌≡◌, ℕ, suc, ◌≤◌, ◌<◌, ◌+◌, true, false, not, ◌&&◌, List, [], ◌∷◌, ◌++◌, length, if◌then◌else◌, refl, sym, ap, ap₂, ◌∙◌, subst, arith, ne_eqb, length-append}
use Rattle.std.proofs.Math.Bool.{and_comm}
use Rattle.bddl_model.specs.declared.circuit.Wire.{Wire}
use Rattle.bddl_model.specs.declared.circuit.Gate.{Gate}
use Rattle.bddl_model.specs.Truth.{Assignment, assign}
use Rattle.bddl_model.specs.Circuit.{Circuit, Ordered, nodes_of, IsCircuit, IsWire, wire_true, gate_values, node_values, holds}
use Rattle.bddl_model.specs.Growth.{Grows}
use Rattle.bddl_model.proofs.Assignments.{assign_same, assign_other}

-- ---- the values of the nodes

gate_values-append : (gs hs : List Gate) (n : ℕ) (a : Assignment) → gate_values (gs ++ hs) n a ≡ gate_values hs (n + length gs) (gate_values gs n a)
gate_values-append [] hs n a = let e : n ≡ n + 0 = omega arith in ap (λ m. gate_values hs m a) e
gate_values-append (g ∷ gs) hs n a = let e : suc n + length gs ≡ n + suc (length gs) = omega arith in gate_values-append gs hs (suc n) _ ∙ ap (λ m. gate_values hs m (gate_values (g ∷ gs) n a)) e

-- gates leave the values of earlier nodes
pub gate_values-below : (gs : List Gate) (n : ℕ) (a : Assignment) (k : ℕ) → k < n → gate_values gs n a k ≡ a k
gate_values-below [] n a k lt = refl
gate_values-below (g ∷ gs) n a k lt = gate_values-below gs (suc n) _ k (omega arith) ∙ assign_other n (wire_true a g.left && wire_true a g.right) a k (ne_eqb n k (λ e. omega arith))

-- ---- gates at the end

wires_kept : (old new : Circuit) (more : List Gate) → new.inputs ≡ old.inputs → new.gates ≡ old.gates ++ more → (w : Wire) (a : Assignment) → IsWire old w → holds new w a ≡ holds old w a
unfolding holds
wires_kept old new more e h w a i =
    ap (λ x. if w.negated then not x else x)
    (ap₂ (λ k gs. gate_values gs (suc k) (assign 0 true a) w.node.0) e h
    ∙ ap (λ f. f w.node.0) (gate_values-append old.gates more (suc old.inputs) (assign 0 true a))
    ∙ gate_values-below more (suc old.inputs + length old.gates) _ w.node.0 i)

pub grows_by : (n : ℕ) (old new : Circuit) (more : List Gate) → new.inputs ≡ old.inputs → new.gates ≡ old.gates ++ more → length more ≤ n → Grows n old new
grows_by n old new more e h le =
    let count = ap length h in
    let sum = length-append old.gates more in
    record {
      inputs = e;
      gates = (more, h);
      least = omega (arith, e, count, sum);
      room = omega (arith, e, count, sum, le);
      wires = λ w i. omega (arith, e, count, sum, i);
      kept = wires_kept old new more e h;
    }

-- ---- one gate more, of two wires, the smaller one first

abbrev pub Joins : Gate → Wire → Wire → Type 0
Joins g v w = (g.left ≡ v) × (g.right ≡ w) × (v.node.0 < w.node.0) ⊎ (g.left ≡ w) × (g.right ≡ v) × (w.node.0 < v.node.0)

gate_held : (c new : Circuit) (g : Gate) (w : Wire) (a : Assignment) → new.inputs ≡ c.inputs → new.gates ≡ c.gates ++ g ∷ [] → w.node.0 ≡ nodes_of c → w.negated ≡ false → holds new w a ≡ (holds c g.left a && holds c g.right a)
unfolding holds
gate_held c new g w a i h e n =
    ap₂ (λ s k. if s then not (node_values new a k) else node_values new a k) n e
    ∙ ap₂ (λ k gs. gate_values gs (suc k) (assign 0 true a) (nodes_of c)) i h
    ∙ ap (λ f. f (nodes_of c)) (gate_values-append c.gates (g ∷ []) (suc c.inputs) (assign 0 true a))
    ∙ assign_same (nodes_of c) _ (node_values c a)

pub joined_held : (c new : Circuit) (u v : Wire) (g : Gate) (w : Wire) (a : Assignment) → Joins g u v → new.inputs ≡ c.inputs → new.gates ≡ c.gates ++ g ∷ [] → w.node.0 ≡ nodes_of c → w.negated ≡ false → holds new w a ≡ (holds c u a && holds c v a)
joined_held c new u v g w a (inl j) i h e n = gate_held c new g w a i h e n ∙ ap₂ (λ x y. holds c x a && holds c y a) j.0 j.1
joined_held c new u v g w a (inr j) i h e n = gate_held c new g w a i h e n ∙ ap₂ (λ x y. holds c x a && holds c y a) j.0 j.1 ∙ and_comm (holds c v a) (holds c u a)

ordered-append : (gs : List Gate) (n : ℕ) (g : Gate) → Ordered gs n → g.left.node.0 < g.right.node.0 → g.right.node.0 < n + length gs → Ordered (gs ++ g ∷ []) n
ordered-append [] n g o apart low = (apart, omega arith, tt)
ordered-append (x ∷ gs) n g o apart low = (o.0, o.1, ordered-append gs (suc n) g o.2 apart (omega arith))

pub joined_ordered : (c new : Circuit) (u v : Wire) (g : Gate) → Joins g u v → new.inputs ≡ c.inputs → new.gates ≡ c.gates ++ g ∷ [] → IsWire c u → IsWire c v → IsCircuit c → IsCircuit new
joined_ordered c new u v g j i h iu iv o = subst (λ k. Ordered new.gates (suc k)) (sym i) (subst (λ gs. Ordered gs (suc c.inputs)) (sym h) (go j))
  where
    go : Joins g u v → Ordered (c.gates ++ g ∷ []) (suc c.inputs)
    go (inl j) = ordered-append c.gates (suc c.inputs) g o (rw (j.0, j.1) j.2) (rw j.1 iv)
    go (inr j) = ordered-append c.gates (suc c.inputs) g o (rw (j.0, j.1) j.2) (rw j.1 iu)
