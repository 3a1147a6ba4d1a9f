-- Where a gate stands among the gates, and that two wires whose gate stands there need one.
use Rattle.std.proofs.Common.{◌≡◌, ◌≢◌, ◌⊎◌, inl, inr, ℕ, suc, ◌+◌, ◌-◌, ◌<◌, ◌≤◌, Bool, true, false, not, ◌&&◌, ◌||◌, ◌==◌, nat_lt, List, get_or, slice_get, AllPairs, Some, None, if◌then◌else◌, refl, sym, ap, ap₂, ◌∙◌, arith, ne_eqb}
use Rattle.std.specs.Bool.{Decides}
use Rattle.std.specs.Cmp.{booleans_Decides, unsigned_Decides}
use Rattle.std.specs.List.{list_any}
use Rattle.std.proofs.Math.Bool.{beq}
use Rattle.std.proofs.lemmas.Bool.{cases_order, ltb-true, ltb-false, lt-ltb}
use Rattle.std.proofs.lemmas.Bool.Decides.{Decides-and, nat_tests}
use Rattle.std.proofs.lemmas.Option.{slice_get_within, get_or_from_slice_get}
use Rattle.std.proofs.lemmas.List.Folds.{list_any_at}
use Rattle.bddl_model.specs.declared.circuit.Wire.{Wire}
use Rattle.bddl_model.specs.declared.circuit.Gate.{Gate}
use Rattle.bddl_model.specs.Circuit.{Circuit}
use Rattle.circuit_dag.specs.Gates.{needs_gate, gate_of, gate_at, IsShared}
use Rattle.circuit_dag.proofs.Appended.{Joins}
use Rattle.circuit_dag.proofs.Standing.{parted}

-- ---- equality of gates

-- as the code compares them
abbrev pub same_wire : Wire → Wire → Bool
same_wire v w = v.node.0 == w.node.0 && beq v.negated w.negated

abbrev pub same_gate : Gate → Gate → Bool
same_gate g h = same_wire g.left h.left && same_wire g.right h.right

same_wire-decides : (v w : Wire) → Decides (same_wire v w) (v ≡ w)
same_wire-decides v w =
    let d = Decides-and (v.node.0 == w.node.0) (beq v.negated w.negated) (unsigned_Decides v.node.0 w.node.0) (booleans_Decides v.negated w.negated) in (
      (λ h. let e = d.0 h in ap₂ (λ n s. record { node = record { 0 = n }; negated = s }) e.0 e.1),
      (λ e. d.1 (ap (λ x. x.node.0) e, ap (λ x. x.negated) e)),
    )

pub same_gate-decides : (g h : Gate) → Decides (same_gate g h) (g ≡ h)
same_gate-decides g h =
    let d = Decides-and (same_wire g.left h.left) (same_wire g.right h.right) (same_wire-decides g.left h.left) (same_wire-decides g.right h.right) in (
      (λ s. let e = d.0 s in ap₂ (λ v w. record { left = v; right = w }) e.0 e.1),
      (λ e. d.1 (ap (λ x. x.left) e, ap (λ x. x.right) e)),
    )

-- ---- places

pub standing_found : (gates : List Gate) (i : ℕ) (g : Gate) → slice_get gates i ≡ Some g → list_any (same_gate g) gates ≡ true
standing_found gates i g h = list_any_at (same_gate g) gates i g (slice_get_within gates i g h) ((same_gate-decides g (get_or gates i g)).1 (sym (get_or_from_slice_get gates i g g h)))

pub one_place : (gates : List Gate) (i j : ℕ) (g : Gate) → AllPairs (λ x y. x ≢ y) gates → slice_get gates i ≡ Some g → slice_get gates j ≡ Some g → i ≡ j
one_place gates i j g apart h k = go (cases_order i j)
  where
    both : (m : ℕ) → slice_get gates m ≡ Some g → get_or gates m g ≡ g
    both m e = get_or_from_slice_get gates m g g e

    go : (i ≡ j) ⊎ ((i < j) ⊎ (j < i)) → i ≡ j
    go (inl e) = e
    go (inr (inl lt)) = absurd (apart i j g lt (slice_get_within gates j g k) (both i h ∙ sym (both j k)))
    go (inr (inr lt)) = absurd (apart j i g lt (slice_get_within gates i g h) (both j k ∙ sym (both i h)))

-- ---- nodes

-- the gate of a node stands as many places on as the node is behind the inputs
pub at_place : (c : Circuit) (n : ℕ) (g : Gate) → gate_at c n ≡ Some g → (c.inputs < n) × (slice_get c.gates (n - suc c.inputs) ≡ Some g)
at_place c n g h = go (nat_lt c.inputs n) refl h
  where
    go : (b : Bool) → nat_lt c.inputs n ≡ b → (if b then slice_get c.gates (n - suc c.inputs) else None) ≡ Some g → (c.inputs < n) × (slice_get c.gates (n - suc c.inputs) ≡ Some g)
    go true e h = (grind arith, h)
    go false e h = absurd cc

pub at_node : (c : Circuit) (i : ℕ) (g : Gate) → slice_get c.gates i ≡ Some g → gate_at c (suc c.inputs + i) ≡ Some g
at_node c i g h =
    let e : suc c.inputs + i - suc c.inputs ≡ i = omega arith in
    rw (lt-ltb c.inputs (suc c.inputs + i) (omega arith), e) h

-- ---- the gate of two wires

unlike : (m n : ℕ) → not (m == 0 || n == 0 || m == n) ≡ true → (1 ≤ m) × (1 ≤ n) × (m ≢ n)
unlike m n h = (grind (arith, nat_tests), grind (arith, nat_tests), (λ e. grind (arith, nat_tests)))

unlike_passes : (m n : ℕ) → 1 ≤ m → 1 ≤ n → m ≢ n → not (m == 0 || n == 0 || m == n) ≡ true
unlike_passes m n l r e = rw (ne_eqb m 0 (λ z. omega arith), ne_eqb n 0 (λ z. omega arith), ne_eqb m n e) refl

module _ (v w : Wire) where
  pub joins : needs_gate v w ≡ true → Joins (gate_of v w) v w × (1 ≤ (gate_of v w).left.node.0)
  joins h = go (nat_lt v.node.0 w.node.0) refl (unlike v.node.0 w.node.0 h)
    where
      go : (b : Bool) → nat_lt v.node.0 w.node.0 ≡ b → (1 ≤ v.node.0) × (1 ≤ w.node.0) × (v.node.0 ≢ w.node.0)
          → let g : Gate = if b then record { left = v; right = w } else record { left = w; right = v } in Joins g v w × (1 ≤ g.left.node.0)
      go true e u = (inl (refl, refl, ltb-true _ _ e), u.0)
      go false e u = let least = ltb-false _ _ e in (inr (refl, refl, omega (arith, least, u.2)), u.1)

  needed : 1 ≤ (gate_of v w).left.node.0 → (gate_of v w).left.node.0 < (gate_of v w).right.node.0 → needs_gate v w ≡ true
  needed p o = go (nat_lt v.node.0 w.node.0) p o
    where
      go : (b : Bool) → let g : Gate = if b then record { left = v; right = w } else record { left = w; right = v } in 1 ≤ g.left.node.0 → g.left.node.0 < g.right.node.0 → needs_gate v w ≡ true
      go true l lt = unlike_passes v.node.0 w.node.0 l (omega arith) (λ e. omega arith)
      go false l lt = unlike_passes v.node.0 w.node.0 (omega arith) l (λ e. omega arith)

  pub standing_needed : (c : Circuit) (n : ℕ) → IsShared c → gate_at c n ≡ Some (gate_of v w) → needs_gate v w ≡ true
  standing_needed c n s h =
      let i = n - suc c.inputs in
      let here = (at_place c n (gate_of v w) h).1 in
      needed (rw (get_or_from_slice_get c.gates i (gate_of v w) (gate_of v w) here) at (s.proper i (gate_of v w) (slice_get_within c.gates i (gate_of v w) here)))
      (parted c.gates i (suc c.inputs) (gate_of v w) s.order here).operands
