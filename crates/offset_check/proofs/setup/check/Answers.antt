use Rattle.std.proofs.Common.{◌≡◌, Err, inl, rules}
use Rattle.offset_check.proofs.SetupFaults.{told_sizes, told_actions, told_cells, told_goals, no_fault}
use Rattle.offset_check.proofs.setup.check.Goals as goal

pub returns-in_err-check_sizes : goal.returns-in_err-check_sizes
returns-in_err-check_sizes c =
    let is : c.from_residual.result ≡ Err c.in_err-check_sizes.field-0.0 = search rules in
    told_sizes c.args.domain.now c.args.problem.now _ _ is c.in_err-check_sizes.ensures.checks

pub returns-in_err-game : goal.returns-in_err-game
returns-in_err-game c =
    let is : c.from_residual-in_err-game.result ≡ Err c.in_err-game.field-0.0 = search rules in
    told_actions c.args.domain.now c.args.problem.now _ _ is c.in_ok-check_sizes.ensures.checks c.in_err-game.ensures.checks

pub returns-in_err-board : goal.returns-in_err-board
returns-in_err-board c =
    let is : c.from_residual-in_err-board.result ≡ Err c.in_err-board.field-0.0 = search rules in
    told_cells c.args.domain.now c.args.problem.now _ _ is c.in_ok-check_sizes.ensures.checks c.in_ok-game.ensures.checks c.in_err-board.ensures.checks

pub returns-in_err-add_goals : goal.returns-in_err-add_goals
returns-in_err-add_goals c =
    let is : c.from_residual-in_err-add_goals.result ≡ Err c.in_err-add_goals.field-0.0 = search rules in
    let begun = c.in_ok-game.ensures in
    told_goals c.args.domain.now c.args.problem.now c.in_ok-game.game _ _ is begun.game c.in_ok-check_sizes.ensures.checks begun.checks c.in_ok-board.ensures.checks c.in_err-add_goals.ensures.checks

pub returns : goal.returns
returns c =
    let begun = c.in_ok-game.ensures in
    let board = c.in_ok-board.ensures in
    let goals = c.in_ok-add_goals.ensures in
    inl (no_fault c.args.domain.now c.args.problem.now c.in_ok-game.game c.add_goals.new.game c.in_ok-board.board begun.game goals.added board.board c.in_ok-check_sizes.ensures.checks begun.checks board.checks goals.checks)
