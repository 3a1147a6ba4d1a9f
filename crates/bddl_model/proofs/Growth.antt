-- A circuit that grows step by step, and what the opposite of a wire holds.
use Rattle.std.proofs.Common.{◌≡◌, ℕ, ◌≤◌, ◌+◌, Bool, true, false, not, ◌++◌, Result, if◌then◌else◌, refl, ap, ap₂, ◌∙◌, arith, append_assoc}
use Rattle.std.proofs.lemmas.Result.{IfOk-weaker}
use Rattle.bddl_model.specs.declared.circuit.Wire.{Wire}
use Rattle.bddl_model.specs.declared.memory.NoMemory.{NoMemory}
use Rattle.bddl_model.specs.Truth.{Assignment}
use Rattle.bddl_model.specs.Circuit.{Circuit, node_values, holds}
use Rattle.bddl_model.specs.Growth.{Grows, Makes}

pub grows_then : {m n : ℕ} {a b c : Circuit} → Grows m a b → Grows n b c → Grows (m + n) a c
grows_then g h = record {
  inputs = h.inputs ∙ g.inputs;
  gates = (g.gates.0 ++ h.gates.0, h.gates.1 ∙ ap (λ gates. gates ++ h.gates.0) g.gates.1 ∙ append_assoc _ g.gates.0 h.gates.0);
  least = omega (arith, g.least, h.least);
  room = omega (arith, g.room, h.room);
  wires = λ w i. h.wires w (g.wires w i);
  kept = λ w v i. h.kept w v (g.wires w i) ∙ g.kept w v i;
}

pub grows_within : {m n : ℕ} {a b : Circuit} → Grows m a b → m ≤ n → Grows n a b
grows_within g le = record { inputs = g.inputs; gates = g.gates; least = g.least; room = omega (arith, g.room); wires = g.wires; kept = g.kept }

-- the last call of several, whose meaning is said in other words
pub makes_after : {m n k : ℕ} {a b c : Circuit} {result : Result Wire NoMemory} {f g : Assignment → Bool} → Grows m a b → Makes n b c result f → m + n ≤ k → ((v : Assignment) → f v ≡ g v) → Makes k a c result g
makes_after {c = c} {result = result} {f = f} before made le same = record {
  wire = made.wire;
  value = IfOk-weaker result (λ w. (v : Assignment) → holds c w v ≡ f v) _ (λ w h v. h v ∙ same v) made.value;
  grows = grows_within (grows_then before made.grows) le;
}

pub opposite_held : (c : Circuit) (v w : Wire) (a : Assignment) → v.node.0 ≡ w.node.0 → v.negated ≡ not w.negated → holds c v a ≡ not (holds c w a)
unfolding holds
opposite_held c v w a e n =
    ap₂ (λ k s. if s then not (node_values c a k) else node_values c a k) e n
    ∙ go w.negated (node_values c a w.node.0)
  where
    go : (s t : Bool) → (if not s then not t else t) ≡ not (if s then not t else t)
    go true true = refl
    go true false = refl
    go false t = refl
