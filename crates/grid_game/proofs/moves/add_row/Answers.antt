use Rattle.std.proofs.Common.{◌+◌, ◌-◌, ◌≤◌, List, ◌++◌, sym, ap, ◌∙◌, arith}
use Rattle.std.specs.Prelude.{filter}
use Rattle.bddl_model.specs.declared.game.Move.{Move}
use Rattle.grid_game.specs.Listed.{row_moves, tests_hold}
use Rattle.grid_game.proofs.MoveRows.{row_takes, row_skips}
use Rattle.grid_game.proofs.moves.add_row.Goals as goal
use Rattle.grid_game.proofs.moves.add_row.Goals.{then-all_hold, else-all_hold}

pub loop-x-preserved : goal.loop-x-preserved
loop-x-preserved c =
    let stand = tests_hold c.args.board.now c.args.before.now in
    let done = c.loop-x.list-inside.moves.items in
    let le : c.loop-x.x ≤ c.args.rect.x_high = omega arith in
    elim c.if-all_hold.branch [
      | then-all_hold w ↦
          let takes = row_takes stand c.args.action c.args.y c.loop-x.x c.args.rect.x_high done le (sym c.all_hold.ensures ∙ w.if-all_hold.true) in
          let grows = ap (λ (l : List Move). l ++ filter stand (row_moves c.args.action c.args.y (c.loop-x.x + 1) (c.args.rect.x_high + 1 - (c.loop-x.x + 1)))) w.push_reserved.ensures.items in
          rw w.list-inside-is (record { moves = grows ∙ takes ∙ c.loop-x.invariant.moves; rest = omega (arith, w.push_reserved.ensures.len); room = w.push_reserved.ensures.capacity ∙ c.loop-x.invariant.room })
      | else-all_hold w ↦
          let skips = row_skips stand c.args.action c.args.y c.loop-x.x c.args.rect.x_high done le (sym c.all_hold.ensures ∙ w.if-all_hold.false) in
          rw w.list-inside-is (record { moves = skips ∙ c.loop-x.invariant.moves; rest = omega arith; room = c.loop-x.invariant.room })
    ]
