use Rattle.std.proofs.Common.{length, sym, ap, subst, ◌∙◌, arith, ◌≡◌, take}
use Rattle.bddl_model.specs.declared.game.Side.TheVariants.{Black}
use Rattle.bddl_model.specs.Codes.{shape_of, code_length}
use Rattle.strategy.specs.FirstMoves.{WinsBy}
use Rattle.strategy.proofs.FirstMoves.{values_name_a_move}
use Rattle.strategy.proofs.moving.first_move.Goals as goal

pub spelled_by-requires : goal.spelled_by-requires
spelled_by-requires g c =
    let is = rw c.in-True.is at c.in_ok-first.ensures.yes in
    let found = values_name_a_move c.args.game.now c.args.board.now.marks c.args.left _ _ c.requires.left.0 c.in_ok-compiled.ensures.form is c.requires.unfinished in
    let same = ap length c.deref.ensures.value in
    omega (arith, found.1.long, same)

pub unreachable-requires : goal.unreachable-requires
unreachable-requires g c =
    let is = rw c.in-True.is at c.in_ok-first.ensures.yes in
    let found = values_name_a_move c.args.game.now c.args.board.now.marks c.args.left _ _ c.requires.left.0 c.in_ok-compiled.ensures.form is c.requires.unfinished in
    c.in_default.not-Some found.0
    (c.spelled_by.ensures found.0 found.1.placed (found.1.code ∙ ap (take (code_length (shape_of c.args.game.now Black))) (sym c.deref.ensures.value)))

pub returns-in-True-clause-wins : goal.returns-in-True-clause-wins
returns-in-True-clause-wins g c =
    let is = rw c.in-True.is at c.in_ok-first.ensures.yes in
    let found = values_name_a_move c.args.game.now c.args.board.now.marks c.args.left _ _ c.requires.left.0 c.in_ok-compiled.ensures.form is c.requires.unfinished in
    let spelled = c.spelled_by.ensures found.0 found.1.placed (found.1.code ∙ ap (take (code_length (shape_of c.args.game.now Black))) (sym c.deref.ensures.value)) in
    let same : found.0 ≡ c.in-Some.mv = cc in
    subst (WinsBy c.args.game.now c.args.board.now.marks c.args.left) same found.1.wins
