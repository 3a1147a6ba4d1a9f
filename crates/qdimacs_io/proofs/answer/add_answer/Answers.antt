use Rattle.std.proofs.Common.{refl}
use Rattle.io_edge.proofs.Added.{added_nothing, added_more, added_stops, added_last}
use Rattle.qdimacs_io.proofs.Answering.{answer_text_is}
use Rattle.qdimacs_io.proofs.answer.add_answer.Goals as goal

pub returns-in_err-add_result-clause-text : goal.returns-in_err-add_result-clause-text
returns-in_err-add_result-clause-text g c =
    let next = answer_text_is c.args.verdict c.args.variables c.args.clauses c.args.prefix.now c.args.prefix.now c.args.first.now refl in
    added_stops _ _ _ _ next _ _ _ _ _ _ (added_nothing _ _ _) _ c.from_residual.ensures.0 c.in_err-add_result.ensures.text

pub returns-clause-text : goal.returns-clause-text
returns-clause-text g c =
    let next = answer_text_is c.args.verdict c.args.variables c.args.clauses c.args.prefix.now c.as_slice.result.now c.args.first.now c.as_slice.ensures in
    added_last _ _ _ refl _ _ _ _ _ _ _ (added_more _ _ _ _ next _ _ _ _ _ _ (added_nothing _ _ _) c.in_ok-add_result.ensures.text) c.add_values.ensures.text
