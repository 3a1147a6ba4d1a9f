use Rattle.std.proofs.Common.{Err, map, subst, true}
use Rattle.std.proofs.lemmas.Result.{err_from_is_err_and}
use Rattle.bddl_model.specs.Outcome.{ContentEnds}
use Rattle.request_parts.specs.Ends.{Writes, content_told}
use Rattle.request_parts.specs.declared.refusal.Close.{Close}
use Rattle.request_parts.specs.Seen.{seen}
use Rattle.bddl_requests.proofs.Answered.{no_write, request_done, request_stopped, request_unread}
use Rattle.bddl_requests.proofs.Early.{refused_before}
use Rattle.bddl_requests.proofs.program.carry_out.Goals as goal

pub returns-in_err-contents-clause-written : goal.returns-in_err-contents-clause-written
returns-in_err-contents-clause-written g c faulty replies calm are =
    let end = err_from_is_err_and c.from_residual-in_err-contents.result c.from_residual-in_err-contents.ensures.1 in
    rw (end.1, end.2) (request_unread faulty (g.S.Shelf.held c.args.shelf.now) _ (seen c.in_ok-request.request) (rw c.len.ensures at c.in_ok-request.ensures.found) _ c.limits_of-limits.ensures.table replies _ _ (c.in_err-contents.ensures.read faulty calm))

pub returns-in_err-contents-clause-out_cause : goal.returns-in_err-contents-clause-out_cause
returns-in_err-contents-clause-out_cause g c =
    let end = err_from_is_err_and c.from_residual-in_err-contents.result c.from_residual-in_err-contents.ensures.1 in
    rw (end.1, end.2) (no_write Close _ _ c.in_err-contents.ensures.stop)

pub answer-requires-clause-within : goal.answer-requires-clause-within
answer-requires-clause-within g c =
    let read = c.in_ok-contents.ensures.read true (λ e. absurd cc) in
    rw (c.deref.ensures.value) (rw c.limits_of-limits.ensures.table at read.2.1)

pub returns-in_err-answer-clause-written : goal.returns-in_err-answer-clause-written
returns-in_err-answer-clause-written g c faulty replies calm are =
    let end = err_from_is_err_and c.from_residual-in_err-answer.result c.from_residual-in_err-answer.ensures.1 in
    let written = subst (λ xs. Writes content_told (ContentEnds c.in_ok-request.request.command (map (λ w. w.items) xs) c.in_ok-request.request.numbers.items replies) (g.K.Sink.written c.args.out.now) (g.K.Sink.written c.answer.new.out) (Err c.in_err-answer.field-0.0)) c.deref.ensures.value (c.in_err-answer.ensures.written replies (rw (rw c.len.ensures at c.in_ok-request.ensures.found) at are)) in
    rw (end.1, end.2) (request_stopped faulty (g.S.Shelf.held c.args.shelf.now) _ (seen c.in_ok-request.request) (rw c.len.ensures at c.in_ok-request.ensures.found) _ c.limits_of-limits.ensures.table replies _ (c.in_ok-contents.ensures.read faulty calm) _ _ _ written)

pub returns-clause-written : goal.returns-clause-written
returns-clause-written g c faulty replies calm are =
    request_done faulty (g.S.Shelf.held c.args.shelf.now) _ (seen c.in_ok-request.request) (rw c.len.ensures at c.in_ok-request.ensures.found) _ c.limits_of-limits.ensures.table replies _ (c.in_ok-contents.ensures.read faulty calm) _ _ c.in_ok-answer.field-0 (rw c.deref.ensures.value at (c.in_ok-answer.ensures.written replies (rw (rw c.len.ensures at c.in_ok-request.ensures.found) at are)))

pub returns-in_err-answer-clause-refused : goal.returns-in_err-answer-clause-refused
returns-in_err-answer-clause-refused g c refused =
    let end = err_from_is_err_and c.from_residual-in_err-answer.result c.from_residual-in_err-answer.ensures.1 in
    c.in_err-answer.ensures.refused (refused_before c.in_err-answer.field-0.0 (rw (end.1, end.2) at refused))
