-- Assignments that give the same values to a circuit's inputs, or to its gate variables.
use Rattle.std.specs.Prelude.{ℕ, suc, ◌≡◌, ◌≤◌, ◌<◌, List, length}
use Rattle.bddl_model.specs.declared.formula.Quant.TheVariants.{Exists}
use Rattle.bddl_model.specs.declared.formula.Bound.{Bound}
use Rattle.bddl_model.specs.Truth.{Assignment}
use Rattle.bddl_model.specs.Layout.{bounds}
use Rattle.bddl_model.specs.Circuit.{Circuit, nodes_of}

abbrev pub SameInputs : Circuit → Assignment → Assignment → Type 0
SameInputs c a b = (v : ℕ) → 1 ≤ v → v ≤ c.inputs → a v ≡ b v

-- the variable of the node that is true is one of them
abbrev pub SameGates : Circuit → Assignment → Assignment → Type 0
SameGates c a b = (v : ℕ) → c.inputs < v → v ≤ nodes_of c → a v ≡ b v

-- the gate variables of a circuit, under their quantifier
abbrev pub gate_bounds : Circuit → List Bound
gate_bounds c = bounds Exists (suc c.inputs) (suc (length c.gates))
