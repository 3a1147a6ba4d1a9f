use Rattle.std.proofs.Common.{◌≡◌, ◌+◌, ◌-◌, ◌*◌, ◌≤◌, ◌++◌, length}
use Rattle.std.specs.Prelude.{filter}
use Rattle.bddl_model.specs.Game.{actions}
use Rattle.bddl_model.specs.Moves.{legal, moves}
use Rattle.grid_game.specs.Listed.{actions_moves}
use Rattle.grid_game.proofs.moves.moves_into.Given as goal

-- what is listed, and the legal moves of the actions that are left, are the legal moves; those actions have room
abbrev pub invariant-loop-action : goal.invariant-loop-action
invariant-loop-action l = record {
  moves : l.list.moves ++ filter (legal l.game l.board.marks l.side) (actions_moves l.game l.action (length (actions l.game l.side) - l.action)) ≡ moves l.game l.board.marks l.side;
  rest : length l.list.moves + (length (actions l.game l.side) - l.action) * (l.game.width * l.game.height) ≤ l.fn.list.room;
  room : l.list.room ≡ l.fn.list.room;
}
