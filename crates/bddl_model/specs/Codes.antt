-- Moves as bits: the action, x - 1 and y - 1, each least bit first.
use Rattle.std.specs.Prelude.{ℕ, zero, suc, ◌+◌, ◌-◌, ◌/◌, ◌%◌, ◌<◌, ◌≤◌, Bool, false, ◌==◌, List, [], ◌∷◌, ◌++◌, length, take, drop, Option, None, Some, slice_get, if◌then◌else◌}
use Rattle.bddl_model.specs.declared.game.Side.{Side}
use Rattle.bddl_model.specs.declared.game.Move.{Move}
use Rattle.bddl_model.specs.Bits.{bits}
use Rattle.bddl_model.specs.Words.{number_of_bits}
use Rattle.bddl_model.specs.Game.{Game, Action, action_atoms, actions}
use Rattle.bddl_model.specs.Fitting.{fits}

-- what a side's codes depend on
pub record Shape : Type 0 where
  pub actions : ℕ
  pub width : ℕ
  pub height : ℕ

abbrev pub shape_of : Game → Side → Shape
shape_of g side = record { actions = length (actions g side); width = g.width; height = g.height }

-- the length of a code; none where there is no action
abbrev pub code_length : Shape → ℕ
code_length s = if s.actions == 0 then 0 else bits s.actions + (bits s.width + bits s.height)

-- one of the actions, at a cell of the board
pub record IsPlaced (s : Shape) (m : Move) : Type 0 where
  pub action : m.action < s.actions
  pub column : (1 ≤ m.x) × (m.x ≤ s.width)
  pub row : (1 ≤ m.y) × (m.y ≤ s.height)

-- ---- written

-- a number in so many bits
abbrev pub number_bits : ℕ → ℕ → List Bool
number_bits zero k = []
number_bits (suc n) k = (k % 2 == 1) ∷ number_bits n (k / 2)

abbrev pub code : Shape → Move → List Bool
code s m = number_bits (bits s.actions) m.action ++ (number_bits (bits s.width) (m.x - 1) ++ number_bits (bits s.height) (m.y - 1))

-- ---- read

-- the move that bits spell, whether or not there is such an action or such a cell
abbrev pub spelled_move : Shape → List Bool → Move
spelled_move s c = let anchor = drop (bits s.actions) c in record {
  action = number_of_bits (take (bits s.actions) c);
  x = number_of_bits (take (bits s.width) anchor) + 1;
  y = number_of_bits (drop (bits s.width) anchor) + 1;
}

-- the anchor fits the action, if there is one
abbrev pub fits_action : Game → Option Action → ℕ → ℕ → Bool
fits_action g None x y = false
fits_action g (Some a) x y = fits g.width g.height (action_atoms a) x y

-- the side has the move's action, and its anchor fits
abbrev pub in_range : Game → Side → Move → Bool
in_range g side m = fits_action g (slice_get (actions g side) m.action) m.x m.y
