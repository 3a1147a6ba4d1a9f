use Rattle.std.proofs.Common.{◌&&◌, ◌||◌, not, ap, ap₂, ◌∙◌, rules, arith}
use Rattle.bddl_model.specs.Encoding.{move_tests}
use Rattle.bddl_model.specs.Exact.{coded_move, own_code}
use Rattle.bddl_model.proofs.Growth.{grows_then, grows_within, makes_after}
use Rattle.symbol_cell.specs.Pairs.{mark_of}
use Rattle.symbol_cell.specs.Runs.{place_named}
use Rattle.lifted_encode.specs.Asking.{all_pass, found_met}
use Rattle.lifted_encode.specs.Telling.{marks_of}
use Rattle.lifted_encode.proofs.Turns.{place_stays, found_stays, place_told, mark_told, behind_time, passes_told}
use Rattle.lifted_encode.proofs.plies.also_passes.Goals as goal

pub code_meets-requires-clause-place : goal.code_meets-requires-clause-place
code_meets-requires-clause-place c = place_stays c.args.game.now _ c.args.dag.now c.at_least.new.dag c.args.run.now c.requires.run.0 c.in_ok-behind.ensures.grows c.requires.run.1 _ c.place.ensures

pub code_meets-requires-clause-mark : goal.code_meets-requires-clause-mark
code_meets-requires-clause-mark c = found_stays c.args.game.now _ c.args.dag.now c.at_least.new.dag c.args.run.now c.requires.run.0 c.in_ok-behind.ensures.grows c.requires.run.1 c.args.number _ c.pair_at-mark.ensures

pub returns-in_err-passed : goal.returns-in_err-passed
returns-in_err-passed c = record {
  wire = search rules;
  value = search rules;
  grows = grows_within (grows_then (grows_then c.in_ok-behind.ensures.grows c.in_ok-legal.ensures.grows) c.or.ensures.grows) (omega arith);
}

pub returns : goal.returns
returns c =
    let g = c.args.game.now in
    let r = c.args.run.now in
    let dag = c.args.dag.now in
    let behind = c.in_ok-behind.ensures in
    let legal = c.in_ok-legal.ensures in
    let passed = c.in_ok-passed.ensures in
    let grown = grows_then (grows_then behind.grows legal.grows) passed.grows in
    makes_after grown c.and.ensures.made (omega arith) (λ a.
    ap₂ (λ x y. x && y)
    (grown.kept c.args.known a c.requires.known)
    (passed.value a ∙ ap₂ (λ x y. x || y)
    (c.not-before.ensures.value a ∙ ap not (legal.grows.kept c.in_ok-behind.behind a behind.wire ∙ behind.value a ∙ behind_time c.args.number _))
    (passes_told (move_tests g c.args.ply.side (coded_move g c.args.ply.side a (own_code c.args.ply))) (place_named g c.at_least.new.dag a c.place.result.now) (place_named g dag a r.place) (mark_of c.at_least.new.dag c.pair_at-mark.result a) (marks_of dag r a c.args.number)
    (place_told g _ dag c.at_least.new.dag r c.requires.run.0 behind.grows c.requires.run.1 c.place.result.now a c.place.ensures)
    (mark_told g _ dag c.at_least.new.dag r c.requires.run.0 behind.grows c.requires.run.1 c.args.number c.pair_at-mark.result a c.pair_at-mark.ensures)
    _ (legal.value a ∙ ap (λ span. found_met all_pass (place_named g c.at_least.new.dag a c.place.result.now) (mark_of c.at_least.new.dag c.pair_at-mark.result a) (move_tests g c.args.ply.side (coded_move g c.args.ply.side a span))) c.own_code-code.ensures))))
