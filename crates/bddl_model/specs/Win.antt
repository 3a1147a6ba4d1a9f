-- When Black can force its goal, White's goal not reached before.
use Rattle.std.specs.Prelude.{ℕ, zero, suc, Bool, true, false, not, ◌&&◌, ◌||◌, List, [], ◌∷◌}
use Rattle.std.specs.List.{list_any, list_all}
use Rattle.bddl_model.specs.declared.game.Side.{Side}
use Rattle.bddl_model.specs.declared.game.Side.TheVariants.{Black, White}
use Rattle.bddl_model.specs.Game.{Game}
use Rattle.bddl_model.specs.Board.{Board}
use Rattle.bddl_model.specs.Moves.{moves, after}
use Rattle.bddl_model.specs.Goal.{goal}

abbrev pub has_any : {A : Type 0} → List A → Bool
has_any [] = false
has_any (x ∷ xs) = true

-- The side is to move, and so many plies are left. A side that has no move ends the game, and Black has not won by that.
abbrev pub win : Game → Side → Board → ℕ → Bool
win g side board zero = goal g board Black
win g Black board (suc n) = goal g board Black || (not (goal g board White) && list_any (λ m. win g White (after g board Black m) n) (moves g board Black))
win g White board (suc n) = goal g board Black || (not (goal g board White) && (has_any (moves g board White) && list_all (λ m. win g Black (after g board White m) n) (moves g board White)))
