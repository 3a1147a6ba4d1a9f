-- Pairs of wires that show a mark: one holds where it is black, the other where it is white.
use Rattle.std.specs.Prelude.{◌≡◌, ◌&&◌, Bool, true, false}
use Rattle.bddl_model.specs.declared.game.Mark.{Mark}
use Rattle.bddl_model.specs.declared.game.Mark.TheVariants.{Free, Black, White}
use Rattle.bddl_model.specs.Truth.{Assignment}
use Rattle.bddl_model.specs.Circuit.{Circuit, IsWire, holds}
use Rattle.symbol_cell.specs.declared.pair.Pair.{Pair}

abbrev pub is_black : Mark → Bool
is_black Black = true
is_black _ = false

abbrev pub is_white : Mark → Bool
is_white White = true
is_white _ = false

-- wires of the circuit, of which at most one holds
pub record IsPair (c : Circuit) (p : Pair) : Type 0 where
  pub black : IsWire c p.black
  pub white : IsWire c p.white
  pub apart : (a : Assignment) → (holds c p.black a && holds c p.white a) ≡ false

-- the mark that is shown by whether it is black and whether it is white
abbrev pub mark_shown : Bool → Bool → Mark
mark_shown true white = Black
mark_shown false true = White
mark_shown false false = Free

abbrev pub mark_of : Circuit → Pair → Assignment → Mark
mark_of c p a = mark_shown (holds c p.black a) (holds c p.white a)
