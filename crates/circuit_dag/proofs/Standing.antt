-- A gate of a circuit holds where both of its operands do, whatever came behind it.
use Rattle.std.proofs.Common.{◌≡◌, ℕ, zero, suc, ◌+◌, ◌<◌, false, ◌&&◌, List, [], ◌∷◌, ◌++◌, length, slice_get, Some, inl, refl, sym, ap, ap₂, ◌∙◌, arith, append_assoc, length-append}
use Rattle.bddl_model.specs.declared.circuit.Wire.{Wire}
use Rattle.bddl_model.specs.declared.circuit.Gate.{Gate}
use Rattle.bddl_model.specs.Truth.{Assignment}
use Rattle.bddl_model.specs.Circuit.{Circuit, Ordered, IsCircuit, holds}
use Rattle.bddl_model.specs.Growth.{Grows}
use Rattle.circuit_dag.proofs.Appended.{grows_by, joined_held}

-- the gates before it and those behind it; its operands are earlier nodes
pub record Parted (gates : List Gate) (i n : ℕ) (g : Gate) : Type 0 where
  pub front : List Gate
  pub back : List Gate
  pub whole : gates ≡ front ++ g ∷ back
  pub place : length front ≡ i
  pub operands : g.left.node.0 < g.right.node.0
  pub earlier : g.right.node.0 < n + i

pub parted : (gates : List Gate) (i n : ℕ) (g : Gate) → Ordered gates n → slice_get gates i ≡ Some g → Parted gates i n g
parted [] i n g o h = absurd cc
parted (x ∷ gates) zero n g o h =
    let e : x ≡ g = cc in
    record { front = []; back = gates; whole = ap (λ y. y ∷ gates) e; place = refl; operands = rw e at o.0; earlier = let low = rw e at o.1 in omega arith }
parted (x ∷ gates) (suc i) n g o h =
    let p = parted gates i (suc n) g o.2 h in
    record { front = x ∷ p.front; back = p.back; whole = ap (λ rest. x ∷ rest) p.whole; place = ap suc p.place; operands = p.operands; earlier = let low = p.earlier in omega arith }

pub standing_held : (c : Circuit) (i : ℕ) (g : Gate) (w : Wire) (a : Assignment) → IsCircuit c → slice_get c.gates i ≡ Some g → w.node.0 ≡ suc c.inputs + i → w.negated ≡ false → holds c w a ≡ (holds c g.left a && holds c g.right a)
standing_held c i g w a o h e n =
    let p = parted c.gates i (suc c.inputs) g o h in
    let before : Circuit = record { inputs = c.inputs; gates = p.front } in
    let with_it : Circuit = record { inputs = c.inputs; gates = p.front ++ g ∷ [] } in
    let from_before : Grows (length (g ∷ p.back)) before c = grows_by _ before c (g ∷ p.back) refl p.whole (omega arith) in
    let from_it : Grows (length p.back) with_it c = grows_by _ with_it c p.back refl (p.whole ∙ sym (append_assoc p.front (g ∷ []) p.back)) (omega arith) in
    from_it.kept w a (omega (arith, e, p.place, length-append p.front (g ∷ [])))
    ∙ joined_held before with_it g.left g.right g w a (inl (refl, refl, p.operands)) refl refl (omega (arith, e, p.place)) n
    ∙ ap₂ (λ x y. x && y) (sym (from_before.kept g.left a (omega (arith, p.operands, p.earlier, p.place)))) (sym (from_before.kept g.right a (omega (arith, p.earlier, p.place))))
