use Rattle.std.proofs.Common.{◌≡◌, ◌+◌, ◌-◌, ◌*◌, length, refl, ◌∙◌, arith}
use Rattle.std.proofs.Math.Nat.{mul_assoc, mul_comm}
use Rattle.bddl_model.specs.Game.{actions}
use Rattle.bddl_model.specs.Moves.{legal}
use Rattle.grid_game.proofs.MoveRanges.{first_has_room, others_have_room}
use Rattle.grid_game.proofs.MoveActions.{action_joins, action_is_short}
use Rattle.grid_game.proofs.moves.moves_into.Goals as goal

pub loop-action-init : goal.loop-action-init
loop-action-init c =
    let n = length (actions c.args.game.now c.args.side) in
    let whole : n - 0 ≡ n = omega arith in
    record {
      moves = rw (c.clear.ensures.moves, whole) refl;
      rest = rw (c.clear.ensures.moves, whole) (omega (arith, c.requires.room, mul_assoc n c.args.game.now.width c.args.game.now.height));
      room = c.clear.ensures.room;
    }

pub add_action-requires-clause-room : goal.add_action-requires-clause-room
add_action-requires-clause-room c =
    let g = c.args.game.now in
    let room = first_has_room (length c.loop-action.list.moves) (length (actions g c.args.side) - c.loop-action.action) (g.width * g.height) c.args.list.now.room (omega arith) c.loop-action.invariant.rest in
    omega (arith, room, c.loop-action.invariant.room)

pub loop-action-preserved : goal.loop-action-preserved
loop-action-preserved c =
    let g = c.args.game.now in
    let n = length (actions g c.args.side) in
    let p = legal g c.args.board.now.marks c.args.side in
    let joins = action_joins p g c.loop-action.action n c.loop-action.list.moves c.add_action.new.list.moves (omega arith) c.add_action.ensures.moves in
    let short = action_is_short p g c.loop-action.action 1 g.height c.loop-action.list.moves in
    record {
      moves = joins ∙ c.loop-action.invariant.moves;
      rest = others_have_room (length c.loop-action.list.moves) (length c.add_action.new.list.moves) (n - c.loop-action.action) (n - (c.loop-action.action + 1)) (g.width * g.height) c.args.list.now.room (omega arith) (rw (c.add_action.ensures.moves, mul_comm g.width g.height) short) c.loop-action.invariant.rest;
      room = c.add_action.ensures.room ∙ c.loop-action.invariant.room;
    }
