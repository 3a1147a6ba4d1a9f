-- A list of moves and how many it can hold, and moves in the order in which they are listed.
use Rattle.std.specs.Prelude.{ℕ, Bool, List, map, flat_map}
use Rattle.std.specs.List.{list_all, range_with_len}
use Rattle.bddl_model.specs.declared.game.Test.{Test}
use Rattle.bddl_model.specs.declared.game.Move.{Move}
use Rattle.bddl_model.specs.Game.{Game}
use Rattle.bddl_model.specs.Board.{SizedBoard}
use Rattle.bddl_model.specs.Fitting.{test_holds}

pub record Listed : Type 0 where
  pub moves : List Move
  pub room : ℕ

-- an action in row y and column x
abbrev pub move_at : ℕ → ℕ → ℕ → Move
move_at action y x = record { action = action; x = x; y = y }

-- an action in n columns of row y, from column x on
abbrev pub row_moves : ℕ → ℕ → ℕ → ℕ → List Move
row_moves action y x n = map (move_at action y) (range_with_len x n)

-- an action in n rows of the board, from row y on
abbrev pub action_moves : Game → ℕ → ℕ → ℕ → List Move
action_moves g action y n = flat_map (λ k. row_moves action k 1 g.width) (range_with_len y n)

-- n actions at each cell of the board, from this action on
abbrev pub actions_moves : Game → ℕ → ℕ → List Move
actions_moves g action n = flat_map (λ k. action_moves g k 1 g.height) (range_with_len action n)

-- the tests hold on the board
abbrev pub tests_hold : SizedBoard → List Test → Move → Bool
tests_hold board tests m = list_all (test_holds board.width board.marks m.x m.y) tests
