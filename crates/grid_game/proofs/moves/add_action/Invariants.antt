use Rattle.std.proofs.Common.{◌≡◌, ◌+◌, ◌-◌, ◌*◌, ◌≤◌, ◌++◌, length}
use Rattle.std.specs.Prelude.{filter}
use Rattle.bddl_model.specs.Moves.{legal}
use Rattle.grid_game.specs.Listed.{action_moves}
use Rattle.grid_game.proofs.moves.add_action.Given as goal

-- what is listed, and the legal moves of the rows that are left, are what the call owes; those rows have room
abbrev pub invariant-loop-y : goal.invariant-loop-y
invariant-loop-y l = record {
  moves : l.list.moves ++ filter (legal l.game l.board.marks l.fn.side) (action_moves l.game l.action l.y (l.rect.y_high + 1 - l.y)) ≡ l.fn.list.moves ++ filter (legal l.game l.board.marks l.fn.side) (action_moves l.game l.action 1 l.game.height);
  rest : length l.list.moves + (l.rect.y_high + 1 - l.y) * l.game.width ≤ l.fn.list.room;
  room : l.list.room ≡ l.fn.list.room;
}
