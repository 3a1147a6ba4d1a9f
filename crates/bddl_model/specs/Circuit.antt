-- Circuits of and-gates with negations on their wires: what a wire holds, and the clauses that say so.
use Rattle.std.specs.Prelude.{ℕ, zero, suc, ◌+◌, ◌<◌, Bool, true, false, not, ◌&&◌, List, [], ◌∷◌, length, nat_lt, if◌then◌else◌}
use Rattle.bddl_model.specs.declared.circuit.Wire.{Wire}
use Rattle.bddl_model.specs.declared.circuit.Gate.{Gate}
use Rattle.bddl_model.specs.declared.formula.Lit.{Lit}
use Rattle.bddl_model.specs.Truth.{Assignment, assign, negation}

-- its number of inputs, and its gates, each of which holds where both of its operands hold
pub record Circuit : Type 0 where
  pub inputs : ℕ
  pub gates : List Gate

-- the operands of each gate are two earlier nodes, the smaller one first; those of the first gate are below n
abbrev pub Ordered : List Gate → ℕ → Type 0
Ordered [] n = Unit {0}
Ordered (g ∷ gs) n = (g.left.node.0 < g.right.node.0) × (g.right.node.0 < n) × Ordered gs (suc n)

abbrev pub nodes_of : Circuit → ℕ
nodes_of c = suc c.inputs + length c.gates

abbrev pub IsCircuit : Circuit → Type 0
IsCircuit c = Ordered c.gates (suc c.inputs)

abbrev pub IsWire : Circuit → Wire → Type 0
IsWire c w = w.node.0 < nodes_of c

-- ---- what a wire holds

-- from the values of the nodes
abbrev pub wire_true : Assignment → Wire → Bool
wire_true a w = if w.negated then not (a w.node.0) else a w.node.0

-- the values of the nodes, with those of the gates from node n on
abbrev pub gate_values : List Gate → ℕ → Assignment → Assignment
gate_values [] n a = a
gate_values (g ∷ gs) n a = gate_values gs (suc n) (assign n (wire_true a g.left && wire_true a g.right) a)

-- the values of the nodes, by those of the inputs
abbrev pub node_values : Circuit → Assignment → Assignment
node_values c a = gate_values c.gates (suc c.inputs) (assign 0 true a)

unfoldable pub holds : Circuit → Wire → Assignment → Bool
holds c w a = wire_true (node_values c a) w

-- ---- the clauses of a circuit

-- An input's variable has its number. Behind the inputs stands the variable of the node that is true, and behind it those of the gates.
abbrev pub variable_of : ℕ → ℕ → ℕ
variable_of inputs zero = suc inputs
variable_of inputs (suc n) = if nat_lt n inputs then suc n else suc (suc n)

abbrev pub literal_of : ℕ → Wire → Lit
literal_of inputs w = record { var = record { 0 = variable_of inputs w.node.0 }; negated = w.negated }

abbrev pub positive : ℕ → Lit
positive v = record { var = record { 0 = v }; negated = false }

-- the variable holds where both literals do, and elsewhere not
abbrev pub gate_clauses : ℕ → Lit → Lit → List (List Lit) → List (List Lit)
gate_clauses v x y rest =
    (negation (positive v) ∷ x ∷ [])
    ∷ (negation (positive v) ∷ y ∷ [])
    ∷ (positive v ∷ negation x ∷ negation y ∷ [])
    ∷ rest

-- the clauses of these gates, whose variables stand from v on, and then the rest
abbrev pub gates_clauses : ℕ → List Gate → ℕ → List (List Lit) → List (List Lit)
gates_clauses inputs [] v rest = rest
gates_clauses inputs (g ∷ gs) v rest = gate_clauses v (literal_of inputs g.left) (literal_of inputs g.right) (gates_clauses inputs gs (suc v) rest)

-- the wire holds
abbrev pub output_clause : ℕ → Wire → List (List Lit)
output_clause inputs w = (literal_of inputs w ∷ []) ∷ []

abbrev pub circuit_clauses : Circuit → Wire → List (List Lit)
circuit_clauses c w = (positive (suc c.inputs) ∷ []) ∷ gates_clauses c.inputs c.gates (suc (suc c.inputs)) (output_clause c.inputs w)
