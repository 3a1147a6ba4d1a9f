-- Bounds on steps: of a search by its form, and of the requests by their setup.
use Rattle.std.specs.Prelude.{ℕ, ◌+◌, ◌-◌, ◌*◌, ◌/◌, ◌^◌, length, replicate}
use Rattle.std.specs.Int.{sum_through}
use Rattle.bddl_model.specs.declared.game.Mark.TheVariants as marks
use Rattle.bddl_model.specs.Truth.{Formula}
use Rattle.bddl_model.specs.Setup.{Setup}
use Rattle.bddl_model.specs.Size.{inputs_of, gate_limit}
use Rattle.bddl_model.specs.Tail.{tail_length}

-- of a search over so many variables, some of which stand before the tail
unfoldable pub steps_bound : ℕ → ℕ → ℕ
steps_bound variables before = (variables + 1) * 2 ^ (before + 1)

-- the number of variables before the tail
abbrev pub before_tail : Formula → ℕ
before_tail f = length f.prefix - tail_length f

unfoldable pub bound : Formula → ℕ
bound f = steps_bound (length f.prefix) (before_tail f)

-- at least the bound of each form that is compiled from the setup
unfoldable pub game_bound : Setup → ℕ
game_bound s = steps_bound (inputs_of s + gate_limit s) (inputs_of s)

-- ---- a search for each position that White can lead to

-- with a stone on each cell
abbrev pub filled : Setup → Setup
filled s = record s { board = replicate (s.game.height * s.game.width) marks.Black }

-- White's moves are no more than this
abbrev pub most_replies : Setup → ℕ
most_replies s = length s.game.white_actions * s.game.width * s.game.height

-- the sum of their powers, from 0 up to half the depth, rounded up
abbrev pub most_positions : Setup → ℕ
most_positions s = sum_through (λ i. most_replies s ^ i) ((s.depth + 1) / 2)

unfoldable pub certify_bound : Setup → ℕ
certify_bound s = most_positions s * (game_bound (filled s) + 2)
