-- A game on a grid, as both sides' actions and goal lines.
use Rattle.std.specs.Prelude.{ℕ, zero, suc, List, [], ◌∷◌, ◌++◌, map}
use Rattle.std.specs.List.{slice_index_or}
use Rattle.bddl_model.specs.declared.game.Side.{Side}
use Rattle.bddl_model.specs.declared.game.Side.TheVariants.{Black, White}
use Rattle.bddl_model.specs.declared.game.Atom.{Atom}
use Rattle.bddl_model.specs.declared.game.Test.{Test}
use Rattle.bddl_model.specs.declared.game.TheConstants.{GREATEST_SIDE}

-- the most columns and the most rows of a board
abbrev pub greatest_side : ℕ
greatest_side = GREATEST_SIDE

-- what must hold before an action, and what it writes, in order
pub record Action : Type 0 where
  pub name : List ℕ
  pub before : List Test
  pub effects : List Atom

pub record Game : Type 0 where
  pub width : ℕ
  pub height : ℕ
  pub black_actions : List Action
  pub white_actions : List Action
  pub black_lines : List (List Test)
  pub white_lines : List (List Test)

abbrev pub actions : Game → Side → List Action
actions g Black = g.black_actions
actions g White = g.white_actions

abbrev pub lines : Game → Side → List (List Test)
lines g Black = g.black_lines
lines g White = g.white_lines

abbrev pub opponent : Side → Side
opponent Black = White
opponent White = Black

-- the side that moves after so many plies
abbrev pub side_after : Side → ℕ → Side
side_after side zero = side
side_after side (suc k) = side_after (opponent side) k

abbrev pub test_atoms : List Test → List Atom
test_atoms tests = map (λ t. t.atom) tests

-- the atoms whose cells have to be on the board
abbrev pub action_atoms : Action → List Atom
action_atoms a = test_atoms a.before ++ a.effects

abbrev pub line_atoms : List Test → List Atom
line_atoms line = test_atoms line

-- an action and a line of a side, by their numbers from 0 on
abbrev pub action_at : Game → Side → ℕ → Action
action_at g side n = slice_index_or (actions g side) n (record { name = []; before = []; effects = [] })

abbrev pub line_at : Game → Side → ℕ → List Test
line_at g side n = slice_index_or (lines g side) n []

-- the game with one action or one line of a side more
abbrev pub with_action : Game → Side → Action → Game
with_action g Black a = record g { black_actions = g.black_actions ++ a ∷ [] }
with_action g White a = record g { white_actions = g.white_actions ++ a ∷ [] }

abbrev pub with_line : Game → Side → List Test → Game
with_line g Black l = record g { black_lines = g.black_lines ++ l ∷ [] }
with_line g White l = record g { white_lines = g.white_lines ++ l ∷ [] }
