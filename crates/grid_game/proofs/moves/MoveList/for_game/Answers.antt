use Rattle.std.proofs.Common.{◌≤◌, arith}
use Rattle.bddl_model.specs.Game.{greatest_side}
use Rattle.grid_game.proofs.MoveActions.{few_moves}
use Rattle.grid_game.proofs.moves.MoveList.for_game.Goals as goal

pub overflow_mul-room : goal.overflow_mul-room
overflow_mul-room c =
    let few : c.max-most.result ≤ 8 = omega (arith, c.keeps_the_limits.ensures.black.few_actions, c.keeps_the_limits.ensures.white.few_actions) in
    let least = few_moves c.max-most.result c.width.result greatest_side few c.width.ensures.limit.1 (omega arith) in
    omega (arith, least.0)

pub overflow_mul-room-2 : goal.overflow_mul-room-2
overflow_mul-room-2 c =
    let few : c.max-most.result ≤ 8 = omega (arith, c.keeps_the_limits.ensures.black.few_actions, c.keeps_the_limits.ensures.white.few_actions) in
    let all = few_moves c.max-most.result c.width.result c.height.result few c.width.ensures.limit.1 c.height.ensures.limit.1 in
    omega (arith, all.1)
