-- A list of moves that is made for a game has room for those of either side.
use Rattle.std.proofs.Common.{◌≡◌, ◌≤◌, ◌*◌, ℕ, length, max, sym, subst}
use Rattle.std.proofs.Math.Nat.{le-max_left, le-max_right, mul-le-mul_right}
use Rattle.bddl_model.specs.declared.game.Side.{Side}
use Rattle.bddl_model.specs.declared.game.Side.TheVariants.{Black, White}
use Rattle.bddl_model.specs.Game.{Game, actions}

few : (g : Game) (side : Side) → length (actions g side) ≤ max (length g.black_actions) (length g.white_actions)
few g Black = le-max_left (length g.black_actions) (length g.white_actions)
few g White = le-max_right (length g.black_actions) (length g.white_actions)

pub fits : (g : Game) (side : Side) (room : ℕ) → room ≡ max (length g.black_actions) (length g.white_actions) * g.width * g.height → length (actions g side) * g.width * g.height ≤ room
fits g side room is = subst (λ n. length (actions g side) * g.width * g.height ≤ n) (sym is)
    (mul-le-mul_right g.height (mul-le-mul_right g.width (few g side)))
