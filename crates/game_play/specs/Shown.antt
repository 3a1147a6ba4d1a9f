-- Parts of what is shown.
use Rattle.std.specs.Prelude.{ℕ, ◌<◌, List, ◌++◌, All, length, codes}
use Rattle.std.specs.Fmt.{decimal}
use Rattle.bddl_model.specs.declared.game.Move.{Move}
use Rattle.bddl_model.specs.declared.game.Side.{Side}
use Rattle.bddl_model.specs.declared.game.Side.TheVariants.{White}
use Rattle.bddl_model.specs.Game.{Game, actions}
use Rattle.bddl_model.specs.Play.{move_text}

-- the moves are by actions of the side
abbrev pub AreOf : Game → Side → List Move → Type 0
AreOf g side ms = All (λ m. m.action < length (actions g side)) ms

-- a move that White has, with its number
abbrev pub one_numbered : Game → ℕ → Move → List ℕ
one_numbered g n m = (decimal n ++ codes " ") ++ move_text g White m

abbrev pub count_text : ℕ → List ℕ
count_text n = codes "moves " ++ (decimal n ++ codes "\n")
