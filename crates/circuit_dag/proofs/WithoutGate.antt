-- What truth and inputs hold, and conjunctions that need no gate.
use Rattle.std.proofs.Common.{◌≡◌, ◌≢◌, suc, ◌≤◌, Bool, true, false, not, ◌&&◌, if◌then◌else◌, refl, ap, ◌∙◌, arith, ne_eqb}
use Rattle.std.proofs.Math.Bool.{and_comm}
use Rattle.bddl_model.specs.declared.circuit.Wire.{Wire}
use Rattle.bddl_model.specs.Truth.{Assignment, assign}
use Rattle.bddl_model.specs.Circuit.{Circuit, node_values, holds}
use Rattle.bddl_model.proofs.Assignments.{assign_same, assign_other}
use Rattle.bddl_model.proofs.Growth.{opposite_held}
use Rattle.circuit_dag.proofs.Appended.{gate_values-below}

pub truth_held : (c : Circuit) (w : Wire) (a : Assignment) → w.node.0 ≡ 0 → holds c w a ≡ not w.negated
unfolding holds
truth_held c w a e =
    ap (λ k. if w.negated then not (node_values c a k) else node_values c a k) e
    ∙ ap (λ t. if w.negated then not t else t) (gate_values-below c.gates (suc c.inputs) (assign 0 true a) 0 (omega arith) ∙ assign_same 0 true a)
    ∙ go w.negated
  where
    go : (n : Bool) → (if n then not true else true) ≡ not n
    go true = refl
    go false = refl

pub input_held : (c : Circuit) (w : Wire) (a : Assignment) → 1 ≤ w.node.0 → w.node.0 ≤ c.inputs → w.negated ≡ false → holds c w a ≡ a w.node.0
unfolding holds
input_held c w a low high n =
    ap (λ s. if s then not (node_values c a w.node.0) else node_values c a w.node.0) n
    ∙ gate_values-below c.gates (suc c.inputs) (assign 0 true a) w.node.0 (omega arith)
    ∙ assign_other 0 true a w.node.0 (ne_eqb 0 w.node.0 (λ e. omega arith))

-- ---- conjunctions that need no gate

pub left_false : (c : Circuit) (v w : Wire) (a : Assignment) → v.node.0 ≡ 0 → v.negated ≡ true → holds c v a ≡ (holds c v a && holds c w a)
left_false c v w a e n = go (holds c v a) (holds c w a) (truth_held c v a e ∙ ap not n)
  where
    go : (x y : Bool) → x ≡ false → x ≡ (x && y)
    go x y h = rw h

pub left_true : (c : Circuit) (v w : Wire) (a : Assignment) → v.node.0 ≡ 0 → v.negated ≡ false → holds c w a ≡ (holds c v a && holds c w a)
left_true c v w a e n = go (holds c v a) (holds c w a) (truth_held c v a e ∙ ap not n)
  where
    go : (x y : Bool) → x ≡ true → y ≡ (x && y)
    go x y h = rw h

pub right_false : (c : Circuit) (v w : Wire) (a : Assignment) → w.node.0 ≡ 0 → w.negated ≡ true → holds c w a ≡ (holds c v a && holds c w a)
right_false c v w a e n = left_false c w v a e n ∙ and_comm (holds c w a) (holds c v a)

pub right_true : (c : Circuit) (v w : Wire) (a : Assignment) → w.node.0 ≡ 0 → w.negated ≡ false → holds c v a ≡ (holds c v a && holds c w a)
right_true c v w a e n = left_true c w v a e n ∙ and_comm (holds c w a) (holds c v a)

pub opposite_wires : (c : Circuit) (v w : Wire) (a : Assignment) → v.node.0 ≡ w.node.0 → v.negated ≢ w.negated → false ≡ (holds c v a && holds c w a)
opposite_wires c v w a e n = go (holds c v a) (holds c w a) (opposite_held c v w a e (apart v.negated w.negated n))
  where
    apart : (s t : Bool) → s ≢ t → s ≡ not t
    apart true true h = absurd (h refl)
    apart true false h = refl
    apart false true h = refl
    apart false false h = absurd (h refl)

    go : (x y : Bool) → x ≡ not y → false ≡ (x && y)
    go x true h = rw h
    go x false h = rw h
