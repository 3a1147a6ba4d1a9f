-- The setup that a circuit is made of.
use Rattle.std.specs.Prelude.{ℕ}
use Rattle.bddl_model.specs.declared.game.Side.{Side}
use Rattle.bddl_model.specs.Board.{Board}
use Rattle.bddl_model.specs.Game.{Game}
use Rattle.bddl_model.specs.Setup.{Setup}

abbrev pub setup_of : Game → Board → Side → ℕ → Setup
setup_of g board first depth = record { game = g; board = board; first = first; depth = depth }
