use Rattle.std.proofs.Common.{◌&&◌, refl, ap₂, ◌∙◌, arith}
use Rattle.bddl_model.specs.Words.{word_value}
use Rattle.bddl_model.proofs.Growth.{grows_then, makes_after}
use Rattle.bddl_model.proofs.WireWords.{word_stays, value_kept}
use Rattle.symbol_cell.specs.Runs.{place_named}
use Rattle.symbol_cell.proofs.Following.{stands_kept}
use Rattle.lifted_encode.specs.Telling.{marks_of}
use Rattle.lifted_encode.proofs.Kept.{plies_kept}
use Rattle.lifted_encode.proofs.Turns.{place_told, marks_kept}
use Rattle.lifted_encode.proofs.conditions.is_played.Goals as goal

pub plies_pass-requires-clause-time : goal.plies_pass-requires-clause-time
plies_pass-requires-clause-time c = word_stays _ c.args.dag.now c.at_most.new.dag c.args.time.now c.in_ok-in_time.ensures.grows c.requires.time

pub plies_pass-requires-clause-run : goal.plies_pass-requires-clause-run
plies_pass-requires-clause-run c = (c.requires.run.0, stands_kept c.args.game.now _ c.args.dag.now c.at_most.new.dag c.in_ok-in_time.ensures.grows c.args.run.now c.requires.run.0 c.requires.run.1)

pub returns : goal.returns
returns c =
    let g = c.args.game.now in
    let r = c.args.run.now in
    let dag = c.args.dag.now in
    let next = c.at_most.new.dag in
    let in_time = c.in_ok-in_time.ensures in
    let passed = c.in_ok-passed.ensures in
    makes_after (grows_then in_time.grows passed.grows) c.and.ensures.made (omega arith) (λ a.
    ap₂ (λ x y. x && y)
    (passed.grows.kept c.in_ok-in_time.in_time a in_time.wire ∙ in_time.value a)
    (passed.value a
    ∙ plies_kept g a (word_value next c.args.time.now a) (word_value dag c.args.time.now a) (place_named g next a r.place) (place_named g dag a r.place) (marks_of next r a) (marks_of dag r a)
    (value_kept _ dag next c.args.time.now a in_time.grows c.requires.time)
    (place_told g _ dag next r c.requires.run.0 in_time.grows c.requires.run.1 r.place a refl)
    (λ i. marks_kept g _ dag next r c.requires.run.0 in_time.grows c.requires.run.1 i a) 0 c.args.plies.now))
