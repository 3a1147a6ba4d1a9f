use Rattle.std.proofs.Common.{◌||◌, ap₂, ◌∙◌, rules, arith}
use Rattle.bddl_model.specs.Encoding.{move_tests}
use Rattle.bddl_model.specs.Exact.{coded_move}
use Rattle.bddl_model.specs.Layout.{anchor_bits}
use Rattle.bddl_model.specs.Words.{word_value}
use Rattle.bddl_model.proofs.Growth.{grows_then, grows_within, makes_after}
use Rattle.bddl_model.proofs.WireWords.{word_stays, value_kept}
use Rattle.symbol_cell.specs.Pairs.{mark_of}
use Rattle.symbol_cell.specs.Runs.{place_named}
use Rattle.lifted_encode.specs.Telling.{marks_of}
use Rattle.lifted_encode.proofs.Turns.{place_stays, found_stays, place_told, mark_told, refused_told, ply_told, ply_parted}
use Rattle.lifted_encode.proofs.plies.also_refused.Goals as goal

pub code_meets-requires-clause-asked : goal.code_meets-requires-clause-asked
code_meets-requires-clause-asked c = (word_stays _ c.args.dag.now c.is_exactly.new.dag c.args.test.now c.is_exactly.ensures.grows c.requires.test, c.requires.test_short)

pub code_meets-requires-clause-place : goal.code_meets-requires-clause-place
code_meets-requires-clause-place c = place_stays c.args.game.now _ c.args.dag.now c.is_exactly.new.dag c.args.run.now c.requires.run.0 c.is_exactly.ensures.grows c.requires.run.1 c.place-place.result.now c.place-place.ensures

pub code_meets-requires-clause-mark : goal.code_meets-requires-clause-mark
code_meets-requires-clause-mark c = found_stays c.args.game.now _ c.args.dag.now c.is_exactly.new.dag c.args.run.now c.requires.run.0 c.is_exactly.ensures.grows c.requires.run.1 c.args.number c.pair_at-mark.result c.pair_at-mark.ensures

pub returns-in_err-kept-in-White : goal.returns-in_err-kept-in-White
returns-in_err-kept-in-White c = record {
  wire = search rules;
  value = search rules;
  grows = grows_within (grows_then c.is_exactly.ensures.grows c.code_meets.ensures.grows) (omega (arith, ply_parted c.args.game.now c.args.ply c.in-White.is (anchor_bits c.args.game.now)));
}

pub returns-in_ok-kept-in-White : goal.returns-in_ok-kept-in-White
returns-in_ok-kept-in-White c =
    let g = c.args.game.now in
    let r = c.args.run.now in
    let dag = c.args.dag.now in
    let next = c.is_exactly.new.dag in
    let here = c.in_ok-here-in-White.ensures in
    let kept = c.in_ok-kept-in-White.ensures in
    let grown = grows_then here.grows kept.grows in
    makes_after grown c.or_both.ensures (omega (arith, ply_parted g c.args.ply c.in-White.is (anchor_bits g))) (λ a.
    ap₂ (λ x y. x || y)
    (grown.kept c.args.known a c.requires.known)
    (ply_told g a (word_value dag c.args.time.now a) (place_named g dag a r.place) (marks_of dag r a) (word_value dag c.args.test.now a) c.args.number c.args.ply c.in-White.is _ _
    (kept.grows.kept c.in_ok-here-in-White.here a here.wire ∙ here.value a)
    (c.not-refused.ensures.value a
    ∙ refused_told (move_tests g c.args.ply.side (coded_move g c.args.ply.side a c.args.ply.code)) (place_named g next a c.place-place.result.now) (place_named g dag a r.place) (mark_of next c.pair_at-mark.result a) (marks_of dag r a c.args.number)
    (place_told g _ dag next r c.requires.run.0 here.grows c.requires.run.1 c.place-place.result.now a c.place-place.ensures)
    (mark_told g _ dag next r c.requires.run.0 here.grows c.requires.run.1 c.args.number c.pair_at-mark.result a c.pair_at-mark.ensures)
    (word_value next c.args.test.now a) (word_value dag c.args.test.now a) _ (value_kept _ dag next c.args.test.now a here.grows c.requires.test) (kept.value a))))
