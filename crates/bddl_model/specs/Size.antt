-- The size that a compiled form keeps to: its variables behind the inputs, by units of the game.
use Rattle.std.specs.Prelude.{ℕ, zero, suc, ◌+◌, ◌*◌, Bool, not, nat_le, List, length, drop}
use Rattle.std.specs.List.{sum_by, count_by}
use Rattle.bddl_model.specs.declared.game.Side.{Side}
use Rattle.bddl_model.specs.declared.game.Side.TheVariants.{Black, White}
use Rattle.bddl_model.specs.declared.game.Mark.TheVariants as marks
use Rattle.bddl_model.specs.declared.game.Test.{Test}
use Rattle.bddl_model.specs.Truth.{Formula}
use Rattle.bddl_model.specs.Game.{Game, Action, opponent}
use Rattle.bddl_model.specs.Board.{Board, same_mark}
use Rattle.bddl_model.specs.Setup.{Setup}
use Rattle.bddl_model.specs.Layout.{anchor_bits, layout}

-- ---- units

-- of one action, for each ply of its side
abbrev pub action_units : Side → Action → ℕ
action_units Black a = length a.before + length a.effects + 2
action_units White a = 2 * length a.before + length a.effects + 4

-- of one ply
abbrev pub ply_units : Game → Side → ℕ
ply_units g Black = sum_by (action_units Black) g.black_actions
ply_units g White = sum_by (action_units White) g.white_actions

-- of so many plies, sides in turn
abbrev pub plies_units : Game → Side → ℕ → ℕ
plies_units g side zero = 0
plies_units g side (suc n) = ply_units g side + plies_units g (opponent side) n

-- of the moments, which are one more than the plies
abbrev pub moment_units : ℕ → ℕ
moment_units depth = 4 * (depth + 1)

abbrev pub line_units : List Test → ℕ
line_units line = length line + 2

abbrev pub goal_units : Game → ℕ
goal_units g = sum_by line_units g.black_lines + sum_by line_units g.white_lines

-- the cells that are not open
abbrev pub filled_cells : Board → ℕ
filled_cells board = count_by (λ m. not (same_mark m marks.Free)) board

unfoldable pub units : Game → Board → Side → ℕ → ℕ
units g board first depth = plies_units g first depth + moment_units depth + goal_units g + (filled_cells board + 1)

abbrev pub units_of : Setup → ℕ
units_of s = units s.game s.board s.first s.depth

-- ---- gates

-- the number of inputs
abbrev pub inputs_of : Setup → ℕ
inputs_of s = (layout s.game s.first s.depth).inputs

-- the gate variables that a compiled form may have, the one that is true among them
unfoldable pub gate_limit : Setup → ℕ
gate_limit s = 24 * (anchor_bits s.game + 6) * units_of s

-- the variables behind the inputs are no more than that
unfoldable pub is_small : Formula → Setup → Bool
is_small f s = nat_le (length (drop (inputs_of s) f.prefix)) (gate_limit s)
