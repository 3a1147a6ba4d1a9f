use Rattle.std.proofs.Common.{◌≡◌, drop}
use Rattle.std.specs.List.{list_any}
use Rattle.bddl_model.specs.Game.{lines}
use Rattle.bddl_model.specs.Goal.{line_holds, goal}
use Rattle.grid_game.proofs.goals.goal.Given as given

-- what is left decides
abbrev pub invariant-loop-number : given.invariant-loop-number
invariant-loop-number l = list_any (line_holds l.game l.board.marks) (drop l.number (lines l.game l.side)) ≡ goal l.game l.board.marks l.side
