use Rattle.std.proofs.Common.{refl}
use Rattle.std.specs.Prelude.{flat_map}
use Rattle.io_edge.proofs.Added.{added_nothing, added_more, added_stops, added_last}
use Rattle.cert_text.specs.Writing.{spaced_answer}
use Rattle.cert_text.proofs.Writing.{white_is, ended}
use Rattle.cert_text.proofs.write.add_white.Goals as goal

pub returns-in_err-add_count-clause-text : goal.returns-in_err-add_count-clause-text
returns-in_err-add_count-clause-text g c = added_stops _ _ _ _ (white_is c.args.replies.now) _ _ _ _ _ _ (added_nothing _ _ _) _ c.from_residual.ensures.0 c.in_err-add_count.ensures.text

pub returns-in_err-add_answers-clause-text : goal.returns-in_err-add_answers-clause-text
returns-in_err-add_answers-clause-text g c =
    let count = added_more _ _ _ _ (white_is c.args.replies.now) _ _ _ _ _ _ (added_nothing _ _ _) c.in_ok-add_count.ensures.text in
    added_stops _ _ _ _ (ended (flat_map spaced_answer c.args.replies.now)) _ _ _ _ _ _ count _ c.from_residual-in_err-add_answers.ensures.0 c.in_err-add_answers.ensures.text

pub returns-clause-text : goal.returns-clause-text
returns-clause-text g c =
    let count = added_more _ _ _ _ (white_is c.args.replies.now) _ _ _ _ _ _ (added_nothing _ _ _) c.in_ok-add_count.ensures.text in
    let replies = added_more _ _ _ _ (ended (flat_map spaced_answer c.args.replies.now)) _ _ _ _ _ _ count c.in_ok-add_answers.ensures.text in
    added_last _ _ _ refl _ _ _ _ _ _ _ replies c.add.ensures.text
