-- The gate of two wires, where a circuit has it, and what a circuit keeps that shares its gates.
use Rattle.std.specs.Prelude.{ℕ, suc, ◌≡◌, ◌≢◌, ◌-◌, ◌≤◌, Bool, true, false, not, ◌||◌, ◌==◌, nat_lt, if◌then◌else◌, [], ◌∷◌, ◌++◌, slice_get, All, AllPairs, Option, Some, None, Result, Ok, IsOk, IfOk}
use Rattle.bddl_model.specs.declared.circuit.Wire.{Wire}
use Rattle.bddl_model.specs.declared.circuit.Gate.{Gate}
use Rattle.bddl_model.specs.declared.memory.NoMemory.{NoMemory}
use Rattle.bddl_model.specs.Circuit.{Circuit, IsCircuit, nodes_of}
use Rattle.bddl_model.specs.Forms.{greatest_variables}

-- whether "both hold" takes a gate: neither wire is of node 0, and they are of two nodes
abbrev pub needs_gate : Wire → Wire → Bool
needs_gate v w = not (v.node.0 == 0 || w.node.0 == 0 || v.node.0 == w.node.0)

-- the wire of the smaller node stands first
abbrev pub gate_of : Wire → Wire → Gate
gate_of v w = if nat_lt v.node.0 w.node.0 then record { left = v; right = w } else record { left = w; right = v }

-- the gate that a node is
abbrev pub gate_at : Circuit → ℕ → Option Gate
gate_at c n = if nat_lt c.inputs n then slice_get c.gates (n - suc c.inputs) else None

abbrev pub operands : Gate → Wire × Wire
operands g = (g.left, g.right)

-- the node, not negated
abbrev pub wire_of : ℕ → Wire
wire_of n = record { node = record { 0 = n }; negated = false }

abbrev pub with_gate : Circuit → Gate → Circuit
with_gate c g = record c { gates = c.gates ++ g ∷ [] }

-- within the limits, each gate over two earlier nodes other than node 0, and no gate twice
pub record IsShared (c : Circuit) : Type 0 where
  pub inputs : c.inputs ≤ 65535
  pub nodes : nodes_of c ≤ greatest_variables
  pub order : IsCircuit c
  pub proper : All (λ g. 1 ≤ g.left.node.0) c.gates
  pub apart : AllPairs (λ g h. g ≢ h) c.gates

-- What two wires give, and the circuit after it: where they need no gate, none is made; where a node is their gate, that node is the answer; else the gate comes at the end.
unfoldable pub Shares : Circuit → Wire → Wire → Result Wire NoMemory → Circuit → Type 0
Shares old v w result new =
    (needs_gate v w ≡ false → IsOk result × (new ≡ old))
    × ((n : ℕ) → gate_at old n ≡ Some (gate_of v w) → (result ≡ Ok (wire_of n)) × (new ≡ old))
    × (needs_gate v w ≡ true → ((n : ℕ) → gate_at old n ≢ Some (gate_of v w)) → IfOk result (λ x. (x ≡ wire_of (nodes_of old)) × (new ≡ with_gate old (gate_of v w))))
