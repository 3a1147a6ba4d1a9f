-- Words of wires: what they hold, and the number that this is, least bit first.
use Rattle.std.specs.Prelude.{ℕ, ◌+◌, ◌*◌, Bool, List, [], ◌∷◌, map, if◌then◌else◌}
use Rattle.bddl_model.specs.declared.circuit.Wire.{Wire}
use Rattle.bddl_model.specs.Truth.{Assignment}
use Rattle.bddl_model.specs.Circuit.{Circuit, IsWire, holds}

abbrev pub AreWires : Circuit → List Wire → Type 0
AreWires c [] = Unit {0}
AreWires c (w ∷ ws) = IsWire c w × AreWires c ws

-- what the wires hold
abbrev pub word_bits : Circuit → List Wire → Assignment → List Bool
word_bits c ws a = map (λ w. holds c w a) ws

-- the number that bits make, least bit first
abbrev pub number_of_bits : List Bool → ℕ
number_of_bits [] = 0
number_of_bits (b ∷ bs) = (if b then 1 else 0) + 2 * number_of_bits bs

abbrev pub word_value : Circuit → List Wire → Assignment → ℕ
word_value c ws a = number_of_bits (word_bits c ws a)
