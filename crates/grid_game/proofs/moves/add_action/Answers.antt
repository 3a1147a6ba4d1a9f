use Rattle.std.proofs.Common.{◌+◌, ◌-◌, ◌≤◌, List, ◌++◌, length, refl, sym, ap, ◌∙◌, arith}
use Rattle.std.proofs.Math.Nat.{mul-le-mul_right}
use Rattle.bddl_model.specs.declared.game.Move.{Move}
use Rattle.bddl_model.specs.Game.{action_at}
use Rattle.grid_game.specs.Listed.{tests_hold}
use Rattle.grid_game.proofs.MoveAnchors.{rect_on_board, cells_inside}
use Rattle.grid_game.proofs.MoveLegal.{acts_in, legal_rows}
use Rattle.grid_game.proofs.MoveRanges.{first_has_room, others_have_room}
use Rattle.grid_game.proofs.MoveRows.{row_joins, row_is_short}
use Rattle.grid_game.proofs.moves.add_action.Goals as goal

pub overflow_add-y-end : goal.overflow_add-y-end
overflow_add-y-end c =
    let on = rect_on_board _ _ _ c.action_rect-rect.result c.action_rect-rect.ensures in
    omega (arith, c.keeps_the_limits.ensures.height.1)

pub loop-y-init : goal.loop-y-init
loop-y-init c =
    let g = c.args.game.now in
    let r = c.action_rect-rect.result in
    let on = rect_on_board _ _ _ r c.action_rect-rect.ensures in
    let acts = acts_in g c.args.side c.args.action r c.requires.action c.action_rect-rect.ensures in
    let rows : r.y_high + 1 - r.y_low ≤ g.height = omega arith in
    record {
      moves = ap (λ (l : List Move). c.args.list.now.moves ++ l) (sym (legal_rows g c.args.board.now.marks c.args.side c.args.action _ r acts));
      rest = omega (arith, mul-le-mul_right g.width rows);
      room = refl;
    }

pub add_row-requires-clause-small : goal.add_row-requires-clause-small
add_row-requires-clause-small c =
    let on = rect_on_board _ _ _ c.action_rect-rect.result c.action_rect-rect.ensures in
    (omega (arith, c.keeps_the_limits.ensures.width.1), omega (arith, c.keeps_the_limits.ensures.height.1))

pub add_row-requires-clause-cells : goal.add_row-requires-clause-cells
add_row-requires-clause-cells c =
    rw (c.requires.size.0, c.requires.size.1, c.before-before.ensures) (λ x left right. cells_inside _ _ (action_at c.args.game.now c.args.side c.args.action) c.action_rect-rect.result x _ c.action_rect-rect.ensures (record { x_low = left; x_high = right; y_low = omega arith; y_high = omega arith }))

pub add_row-requires-clause-room : goal.add_row-requires-clause-room
add_row-requires-clause-room c =
    let g = c.args.game.now in
    let r = c.action_rect-rect.result in
    let on = rect_on_board _ _ _ r c.action_rect-rect.ensures in
    let room = first_has_room (length c.loop-y.list.moves) (r.y_high + 1 - c.loop-y.y) g.width c.args.list.now.room (omega arith) c.loop-y.invariant.rest in
    omega (arith, room, c.loop-y.invariant.room, on.x_low, on.x_high)

pub loop-y-preserved : goal.loop-y-preserved
loop-y-preserved c =
    let g = c.args.game.now in
    let r = c.action_rect-rect.result in
    let on = rect_on_board _ _ _ r c.action_rect-rect.ensures in
    let acts = acts_in g c.args.side c.args.action r c.requires.action c.action_rect-rect.ensures in
    let joins = row_joins g c.args.board.now c.args.side c.args.action c.loop-y.y _ r c.before-before.result.now c.loop-y.list.moves c.add_row.new.list.moves c.requires.size.0 acts (omega arith) (omega arith) c.before-before.ensures c.add_row.ensures.moves in
    let short = row_is_short (tests_hold c.args.board.now c.before-before.result.now) c.args.action c.loop-y.y r.x_low (r.x_high + 1 - r.x_low) c.loop-y.list.moves in
    record {
      moves = joins ∙ c.loop-y.invariant.moves;
      rest = others_have_room (length c.loop-y.list.moves) (length c.add_row.new.list.moves) (r.y_high + 1 - c.loop-y.y) (r.y_high + 1 - (c.loop-y.y + 1)) g.width c.args.list.now.room (omega arith) (omega (arith, ap length c.add_row.ensures.moves, short, on.x_low, on.x_high)) c.loop-y.invariant.rest;
      room = c.add_row.ensures.room ∙ c.loop-y.invariant.room;
    }
