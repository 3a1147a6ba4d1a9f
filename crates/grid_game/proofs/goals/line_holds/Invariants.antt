use Rattle.std.proofs.Common.{◌≡◌, ℕ, ◌<◌, ◌≤◌, false}
use Rattle.bddl_model.specs.Game.{Game}
use Rattle.bddl_model.specs.Limits.{IsBoardOf}
use Rattle.grid_game.proofs.Rows.{row_holds}
use Rattle.grid_game.proofs.goals.line_holds.Given as goal

-- the rows before don't hold
abbrev pub invariant-loop-y : goal.invariant-loop-y
invariant-loop-y l = (g : Game) → IsBoardOf g l.board → (k : ℕ) → l.rect.y_low ≤ k → k < l.y → row_holds g l.board.marks l.line k ≡ false
