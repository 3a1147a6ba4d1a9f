-- A circuit that grows by gates at its end.
use Rattle.std.specs.Prelude.{ℕ, ◌≡◌, ◌+◌, ◌≤◌, Bool, List, ◌++◌, Result, IfOk}
use Rattle.bddl_model.specs.declared.circuit.Wire.{Wire}
use Rattle.bddl_model.specs.declared.circuit.Gate.{Gate}
use Rattle.bddl_model.specs.declared.memory.NoMemory.{NoMemory}
use Rattle.bddl_model.specs.Truth.{Assignment}
use Rattle.bddl_model.specs.Circuit.{Circuit, nodes_of, IsWire, holds}
use Rattle.bddl_model.specs.Forms.{greatest_variables}

-- so many gates may still come
abbrev pub HasRoom : Circuit → ℕ → Type 0
HasRoom c n = nodes_of c + n ≤ greatest_variables

-- at most so many gates came behind those that were there; earlier wires hold what they held
pub record Grows (most : ℕ) (old new : Circuit) : Type 0 where
  pub inputs : new.inputs ≡ old.inputs
  pub gates : (more : List Gate) × (new.gates ≡ old.gates ++ more)
  pub least : nodes_of old ≤ nodes_of new
  pub room : nodes_of new ≤ nodes_of old + most
  pub wires : (w : Wire) → IsWire old w → IsWire new w
  pub kept : (w : Wire) (a : Assignment) → IsWire old w → holds new w a ≡ holds old w a

-- At most so many gates came, also where memory was wanting; where it wasn't, the result is a wire that holds what is meant.
pub record Makes (most : ℕ) (old new : Circuit) (result : Result Wire NoMemory) (meaning : Assignment → Bool) : Type 0 where
  pub wire : IfOk result (λ w. IsWire new w)
  pub value : IfOk result (λ w. (a : Assignment) → holds new w a ≡ meaning a)
  pub grows : Grows most old new
