-- Words of wires that carry the inputs of spans.
use Rattle.std.specs.Prelude.{ℕ, zero, suc, ◌≡◌, Bool, List, [], ◌∷◌}
use Rattle.bddl_model.specs.declared.circuit.Wire.{Wire}
use Rattle.bddl_model.specs.declared.formula.Span.{Span}
use Rattle.bddl_model.specs.declared.game.Side.{Side}
use Rattle.bddl_model.specs.Truth.{Assignment}
use Rattle.bddl_model.specs.Circuit.{Circuit}
use Rattle.bddl_model.specs.Encoding.{layout_of}
use Rattle.bddl_model.specs.Game.{Game, opponent}
use Rattle.bddl_model.specs.Layout.{sizes_of, ply_at, end}
use Rattle.bddl_model.specs.Setup.{Setup}
use Rattle.bddl_model.specs.Words.{AreWires, word_bits}
use Rattle.symbol_cell.specs.Runs.{Ply, Run}

-- the values of so many variables, from the first of them on
abbrev pub values_at : Assignment → ℕ → ℕ → List Bool
values_at a v zero = []
values_at a v (suc n) = a v ∷ values_at a (suc v) n

-- wires of the circuit that hold what the inputs of the span are given
pub record Carries (c : Circuit) (s : Span) (word : List Wire) : Type 0 where
  pub wires : AreWires c word
  pub bits : (a : Assignment) → word_bits c word a ≡ values_at a s.from s.len

-- the plies, sides in turn, carry the codes of the layout's from variable v on
abbrev pub CarryCodes : Game → ℕ → Circuit → Side → ℕ → List Ply → Type 0
CarryCodes g depth c side v [] = Unit {0}
CarryCodes g depth c side v (s ∷ plies) =
    let p = ply_at (sizes_of g depth) side v in
    (s.side ≡ side) × Carries c p.code s.code × CarryCodes g depth c (opponent side) (end p.code) plies

-- the run's words are those of the setup's layout
pub record CarriesLayout (s : Setup) (c : Circuit) (r : Run) : Type 0 where
  pub place : Carries c (layout_of s).place r.place
  pub plies : CarryCodes s.game s.depth c s.first 1 r.plies
