-- What a check works with.
use Rattle.std.specs.Prelude.{◌≤◌, ◌*◌, length}
use Rattle.bddl_model.specs.declared.game.Side.{Side}
use Rattle.bddl_model.specs.Game.{Game, actions}
use Rattle.bddl_model.specs.Limits.{IsBoardOf}
use Rattle.cert_checker.specs.declared.bench.Bench.{Bench}

-- the boards have the game's sides, and there is room for the moves of either side
pub record IsBench (g : Game) (b : Bench) : Type 0 where
  pub here : IsBoardOf g b.here
  pub behind : IsBoardOf g b.behind
  pub known : IsBoardOf g b.known
  pub room : (side : Side) → length (actions g side) * g.width * g.height ≤ b.moves.room
