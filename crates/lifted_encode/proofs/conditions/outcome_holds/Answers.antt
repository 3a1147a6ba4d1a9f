use Rattle.std.proofs.Common.{◌&&◌, refl, ap₂, ◌∙◌, arith}
use Rattle.bddl_model.specs.Words.{word_value}
use Rattle.bddl_model.proofs.Growth.{grows_then, makes_after}
use Rattle.bddl_model.proofs.WireWords.{word_stays, value_kept}
use Rattle.symbol_cell.specs.Runs.{place_named}
use Rattle.symbol_cell.proofs.Following.{stands_kept}
use Rattle.lifted_encode.specs.Telling.{marks_of}
use Rattle.lifted_encode.proofs.Kept.{answered_kept}
use Rattle.lifted_encode.proofs.Laid.{laid_stays}
use Rattle.lifted_encode.proofs.Reading.{few_times}
use Rattle.lifted_encode.proofs.Turns.{place_told, marks_kept}
use Rattle.lifted_encode.proofs.conditions.outcome_holds.Goals as goal

pub claim_holds-requires-clause-short : goal.claim_holds-requires-clause-short
claim_holds-requires-clause-short c = let few = few_times c.args.depth (omega arith) in omega (arith, few, c.requires.time_bits, c.requires.laid.time.1)

pub is_answered-requires-clause-laid : goal.is_answered-requires-clause-laid
is_answered-requires-clause-laid c = laid_stays _ c.args.game.now c.args.depth c.args.dag.now c.claim_holds.new.dag c.args.layout.now c.in_ok-claimed.ensures.grows c.requires.laid

pub is_answered-requires-clause-time : goal.is_answered-requires-clause-time
is_answered-requires-clause-time c = word_stays _ c.args.dag.now c.claim_holds.new.dag c.args.time.now c.in_ok-claimed.ensures.grows c.requires.time

pub is_answered-requires-clause-run : goal.is_answered-requires-clause-run
is_answered-requires-clause-run c = (c.requires.run.0, stands_kept c.args.game.now _ c.args.dag.now c.claim_holds.new.dag c.in_ok-claimed.ensures.grows c.args.run.now c.requires.run.0 c.requires.run.1)

pub returns : goal.returns
returns c =
    let g = c.args.game.now in
    let r = c.args.run.now in
    let dag = c.args.dag.now in
    let next = c.claim_holds.new.dag in
    let claimed = c.in_ok-claimed.ensures in
    let answered = c.in_ok-answered.ensures in
    makes_after (grows_then claimed.grows answered.grows) c.and.ensures.made (omega arith) (λ a.
    ap₂ (λ x y. x && y)
    (answered.grows.kept c.in_ok-claimed.claimed a claimed.wire ∙ claimed.value a)
    (answered.value a
    ∙ answered_kept g a (word_value next c.args.time.now a) (word_value dag c.args.time.now a) (place_named g next a r.place) (place_named g dag a r.place) (marks_of next r a) (marks_of dag r a)
    (value_kept _ dag next c.args.time.now a claimed.grows c.requires.time)
    (place_told g _ dag next r c.requires.run.0 claimed.grows c.requires.run.1 r.place a refl)
    (λ i. marks_kept g _ dag next r c.requires.run.0 claimed.grows c.requires.run.1 i a) c.args.depth c.args.layout.now))
