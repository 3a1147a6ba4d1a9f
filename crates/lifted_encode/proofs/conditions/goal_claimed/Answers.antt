use Rattle.std.proofs.Common.{◌+◌, ap, ap₂, arith}
use Rattle.bddl_model.specs.declared.game.Side.TheVariants.{Black}
use Rattle.bddl_model.specs.Encoding.{line_tests, number_in, cell_in}
use Rattle.bddl_model.specs.Layout.{Inputs}
use Rattle.bddl_model.specs.Words.{word_value}
use Rattle.bddl_model.proofs.Growth.{makes_after}
use Rattle.symbol_cell.specs.Pairs.{mark_of}
use Rattle.symbol_cell.specs.Runs.{place_named}
use Rattle.lifted_encode.specs.Asking.{all_pass, found_met}
use Rattle.lifted_encode.specs.Telling.{marks_of, mark_below}
use Rattle.lifted_encode.proofs.Turns.{place_stays, place_told, passes_told}
use Rattle.lifted_encode.proofs.conditions.goal_claimed.Goals as goal

pub line_meets-requires-clause-place : goal.line_meets-requires-clause-place
line_meets-requires-clause-place c = place_stays c.args.game.now _ c.args.dag.now c.mark_at.new.dag c.args.run.now c.requires.run.0 c.in_ok-mark.ensures.grows c.requires.run.1 c.place-place.result.now c.place-place.ensures

pub returns : goal.returns
returns c =
    let g = c.args.game.now in
    let l = c.args.layout.now in
    let r = c.args.run.now in
    let dag = c.args.dag.now in
    let next = c.mark_at.new.dag in
    let mark = c.in_ok-mark.ensures in
    makes_after mark.grows c.line_meets.ensures (omega arith) (λ a.
    let there = place_named g next a c.place-place.result.now in
    let shown = mark_of next c.in_ok-mark.mark a in
    passes_told (line_tests g Black (number_in a l.line) (cell_in g a l.anchor)) there (place_named g dag a r.place) shown (mark_below (c.args.depth + 1) (marks_of dag r a) (word_value dag c.args.time.now a))
    (place_told g _ dag next r c.requires.run.0 mark.grows c.requires.run.1 c.place-place.result.now a c.place-place.ensures)
    (mark.shown a)
    _ (ap₂ (λ line anchor. found_met all_pass there shown (line_tests g Black (number_in a line) (cell_in g a anchor))) (ap (λ (t : Inputs). t.line) c.layout.view_is) (ap (λ (t : Inputs). t.anchor) c.layout.view_is)))
