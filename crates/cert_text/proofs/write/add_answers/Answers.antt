use Rattle.std.proofs.Common.{rules, refl}
use Rattle.io_edge.proofs.Added.{added_more, added_stops}
use Rattle.cert_text.specs.Writing.{spaced_answer}
use Rattle.io_edge.proofs.Added.{flat_map_next}
use Rattle.cert_text.proofs.write.add_answers.Goals as goal

pub returns-in_err-add_answer-clause-text : goal.returns-in_err-add_answer-clause-text
returns-in_err-add_answer-clause-text g c =
    let next = flat_map_next spaced_answer c.args.answers.now c.loop-answer.answer-index _ _ c.loop-answer-test.true refl in
    added_stops _ _ _ _ next _ _ _ _ _ _ c.loop-answer.invariant.added _ c.from_residual.ensures.0 c.in_err-add_answer.ensures.text

pub loop-answer-preserved : goal.loop-answer-preserved
loop-answer-preserved g c =
    let next = flat_map_next spaced_answer c.args.answers.now c.loop-answer.answer-index _ _ c.loop-answer-test.true refl in
    record {
      added = added_more _ _ _ _ next _ _ _ _ _ _ c.loop-answer.invariant.added c.in_ok-add_answer.ensures.text;
      counts = search rules;
    }
