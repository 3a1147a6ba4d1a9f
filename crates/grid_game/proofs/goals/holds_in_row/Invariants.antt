use Rattle.std.proofs.Common.{◌≡◌, ℕ, ◌<◌, ◌≤◌, false}
use Rattle.std.specs.List.{list_all}
use Rattle.bddl_model.specs.Fitting.{test_holds}
use Rattle.grid_game.proofs.goals.holds_in_row.Given as goal

-- the columns before don't hold
abbrev pub invariant-loop-x : goal.invariant-loop-x
invariant-loop-x l = (k : ℕ) → l.fn.rect.x_low ≤ k → k < l.x → list_all (test_holds l.board.width l.board.marks k l.y) l.line ≡ false
