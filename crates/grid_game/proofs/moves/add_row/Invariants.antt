use Rattle.std.proofs.Common.{◌≡◌, ◌+◌, ◌-◌, ◌≤◌, ◌++◌, vec_len}
use Rattle.std.specs.Prelude.{filter, vec_capacity}
use Rattle.grid_game.specs.Listed.{row_moves, tests_hold}
use Rattle.grid_game.proofs.moves.add_row.Given as goal

-- what is listed, and the rest of the row, are what the call owes; the rest has room
abbrev pub invariant-loop-x : goal.invariant-loop-x
invariant-loop-x l = record {
  moves : l.list-inside.moves.items ++ filter (tests_hold l.board l.before) (row_moves l.action l.y l.x (l.fn.rect.x_high + 1 - l.x)) ≡ l.fn.list.moves ++ filter (tests_hold l.board l.before) (row_moves l.action l.y l.fn.rect.x_low (l.fn.rect.x_high + 1 - l.fn.rect.x_low));
  rest : vec_len l.list-inside.moves + (l.fn.rect.x_high + 1 - l.x) ≤ l.fn.list.room;
  room : vec_capacity l.list-inside.moves ≡ l.fn.list.room;
}
