use Rattle.std.proofs.Common.{refl}
use Rattle.io_edge.proofs.Added.{added_nothing, added_more, added_stops, added_last}
use Rattle.cert_text.specs.Writing.{spaced_answer}
use Rattle.cert_text.proofs.Writing.{black_is, ended}
use Rattle.cert_text.proofs.write.add_black.Goals as goal

pub returns-in_err-add-clause-text : goal.returns-in_err-add-clause-text
returns-in_err-add-clause-text g c = added_stops _ _ _ _ (black_is c.args.answer) _ _ _ _ _ _ (added_nothing _ _ _) _ c.from_residual.ensures.0 c.in_err-add.ensures.text

pub returns-in_err-add_answer-clause-text : goal.returns-in_err-add_answer-clause-text
returns-in_err-add_answer-clause-text g c =
    let letter = added_more _ _ _ _ (black_is c.args.answer) _ _ _ _ _ _ (added_nothing _ _ _) c.in_ok-add.ensures.text in
    added_stops _ _ _ _ (ended (spaced_answer c.args.answer)) _ _ _ _ _ _ letter _ c.from_residual-in_err-add_answer.ensures.0 c.in_err-add_answer.ensures.text

pub returns-clause-text : goal.returns-clause-text
returns-clause-text g c =
    let letter = added_more _ _ _ _ (black_is c.args.answer) _ _ _ _ _ _ (added_nothing _ _ _) c.in_ok-add.ensures.text in
    let answer = added_more _ _ _ _ (ended (spaced_answer c.args.answer)) _ _ _ _ _ _ letter c.in_ok-add_answer.ensures.text in
    added_last _ _ _ refl _ _ _ _ _ _ _ answer c.add-2.ensures.text
