use Rattle.std.proofs.Common.{sym, arith}
use Rattle.bddl_model.specs.Game.{line_atoms}
use Rattle.bddl_model.proofs.Anchors.{rect_within}
use Rattle.grid_game.proofs.Rows.{line_holds_by_one, line_fails_by_all}
use Rattle.grid_game.proofs.goals.line_holds.Goals as goal

pub overflow_add-y-end : goal.overflow_add-y-end
overflow_add-y-end c =
    let size = c.keeps_the_size.ensures in
    let within = rect_within c.args.board.now.width c.args.board.now.height (line_atoms c.args.line.now) c.args.rect size.width size.height c.requires in
    omega arith

pub returns-then-holds_in_row : goal.returns-then-holds_in_row
returns-then-holds_in_row c = λ g size.
    let low = c.loop-y.auto.y in
    sym (line_holds_by_one g c.args.board.now c.args.line.now c.args.rect c.loop-y.y size c.requires low (omega arith) (sym (c.if-holds_in_row.ensures g size)))

pub returns : goal.returns
returns c = λ g size.
    sym (line_fails_by_all g c.args.board.now c.args.line.now c.args.rect size c.requires (λ y low high. c.loop-y.invariant g size y low (omega arith)))
