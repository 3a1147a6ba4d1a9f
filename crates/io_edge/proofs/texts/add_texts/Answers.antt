use Rattle.std.proofs.Common.{rules, refl}
use Rattle.io_edge.proofs.Added.{added_more, added_stops, flat_map_next}
use Rattle.io_edge.proofs.texts.add_texts.Goals as goal

pub returns-in_err-add-clause-text : goal.returns-in_err-add-clause-text
returns-in_err-add-clause-text g c =
    let next = flat_map_next (λ text. text.now) c.args.texts.now c.loop-text.text-index _ _ c.loop-text-test.true refl in
    added_stops _ _ _ _ next _ _ _ _ _ _ c.loop-text.invariant.added _ c.from_residual.ensures.0 c.in_err-add.ensures.text

pub loop-text-preserved : goal.loop-text-preserved
loop-text-preserved g c =
    let next = flat_map_next (λ text. text.now) c.args.texts.now c.loop-text.text-index _ _ c.loop-text-test.true refl in
    record {
      added = added_more _ _ _ _ next _ _ _ _ _ _ c.loop-text.invariant.added c.in_ok-add.ensures.text;
      counts = search rules;
    }
