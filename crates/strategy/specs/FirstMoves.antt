-- What is found of a first move of Black.
use Rattle.std.specs.Prelude.{ℕ, ◌≡◌, ◌-◌, true, false}
use Rattle.bddl_model.specs.declared.game.Move.{Move}
use Rattle.bddl_model.specs.declared.game.Side.TheVariants.{Black, White}
use Rattle.bddl_model.specs.Game.{Game}
use Rattle.bddl_model.specs.Board.{Board}
use Rattle.bddl_model.specs.Moves.{legal, after}
use Rattle.bddl_model.specs.Goal.{goal}
use Rattle.bddl_model.specs.Win.{win}
use Rattle.strategy.specs.declared.moving.FirstMove.{FirstMove}
use Rattle.strategy.specs.declared.moving.FirstMove.TheVariants as found

-- the move may be made here, and Black can force its goal behind it in one ply fewer
pub record WinsBy (g : Game) (board : Board) (left : ℕ) (m : Move) : Type 0 where
  pub unfinished : goal g board White ≡ false
  pub legal : legal g board Black m ≡ true
  pub wins : win g White (after g board Black m) (left - 1) ≡ true

abbrev pub IfMove : FirstMove → (Move → Type 0) → Type 0
IfMove (found.Move m) P = P m
IfMove _ P = Unit {0}

abbrev pub IfLost : FirstMove → Type 0 → Type 0
IfLost found.Lost P = P
IfLost _ P = Unit {0}

abbrev pub IfSpent : FirstMove → Type 0 → Type 0
IfSpent found.Spent P = P
IfSpent _ P = Unit {0}
