use Rattle.std.proofs.Common.{sym, arith}
use Rattle.bddl_model.specs.Game.{line_atoms}
use Rattle.bddl_model.proofs.Anchors.{rect_within}
use Rattle.grid_game.proofs.Rows.{row_holds_by_one, row_fails_by_all}
use Rattle.grid_game.proofs.goals.holds_in_row.Goals as goal

pub overflow_add-x-end : goal.overflow_add-x-end
overflow_add-x-end c =
    let size = c.keeps_the_size.ensures in
    let within = rect_within c.args.board.now.width c.args.board.now.height (line_atoms c.args.line.now) c.args.rect size.width size.height c.requires.rect in
    omega arith

pub all_hold-requires-clause-anchor : goal.all_hold-requires-clause-anchor
all_hold-requires-clause-anchor c =
    let size = c.keeps_the_size.ensures in
    let within = rect_within c.args.board.now.width c.args.board.now.height (line_atoms c.args.line.now) c.args.rect size.width size.height c.requires.rect in
    let row = c.requires.row in
    (omega arith, omega arith)

pub returns-then-all_hold : goal.returns-then-all_hold
returns-then-all_hold c = λ g size.
    let low = c.loop-x.auto.x in
    let row = c.requires.row in
    sym (row_holds_by_one g c.args.board.now c.args.line.now c.args.rect c.loop-x.x c.args.y size c.requires.rect (record { x_low = low; x_high = omega arith; y_low = row.0; y_high = row.1 }) (sym c.if-all_hold.ensures))

pub returns : goal.returns
returns c = λ g size.
    sym (row_fails_by_all g c.args.board.now c.args.line.now c.args.rect c.args.y size c.requires.rect (λ x here. let high = here.x_high in c.loop-x.invariant x here.x_low (omega arith)))
