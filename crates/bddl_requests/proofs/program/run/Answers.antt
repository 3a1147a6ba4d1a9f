use Rattle.std.proofs.Common.{◌∙◌, [], Err, ap, arith, false, inl, inr, refl, true}
use Rattle.request_parts.specs.Ends.{closed, refusal_told}
use Rattle.bddl_model.specs.Outcome.{is_carried_out}
use Rattle.request_parts.specs.declared.refusal.Close.{Close}
use Rattle.request_parts.specs.declared.refusal.Refusal.{Refusal}
use Rattle.request_parts.specs.declared.refusal.Stop.TheVariants.{Refused}
use Rattle.bddl_requests.proofs.Answered.{carried_out, close_is_no_end, close_is_no_refusal, six, cut_answers, nothing_is_written, refusal_is_no_result, refusal_status, status_of_read, status_of_words, told_answers, told_or_cut, words_refused}
use Rattle.bddl_requests.proofs.Early.{missed_ends, never_early, seven_is_missed}
use Rattle.bddl_requests.proofs.program.run.Goals as goal

-- ---- carried out

pub returns-in-Ok-clause-ends : goal.returns-in-Ok-clause-ends
returns-in-Ok-clause-ends g c replies are =
    let written = c.in-Ok.ensures.written true replies (λ e. absurd cc) are in
    told_answers _ (closed c.in-Ok.close written.0) _ _ _ _ _ written.1 written.2 (rw c.status.ensures.status at c.status.ensures.not_cut) (c.tell.ensures.told (closed c.in-Ok.close written.0) c.status.ensures.status c.note.ensures)

pub returns-in-Ok-clause-calm : goal.returns-in-Ok-clause-calm
returns-in-Ok-clause-calm g c replies are calm =
    let written = c.in-Ok.ensures.written false replies (λ e. calm) are in
    told_answers _ (closed c.in-Ok.close written.0) _ _ _ _ _ written.1 written.2 (rw c.status.ensures.status at c.status.ensures.not_cut) (c.tell.ensures.told (closed c.in-Ok.close written.0) c.status.ensures.status c.note.ensures)

pub returns-in-Ok-clause-carried_out : goal.returns-in-Ok-clause-carried_out
returns-in-Ok-clause-carried_out g c replies are carried =
    let written = c.in-Ok.ensures.written true replies (λ e. absurd cc) are in
    carried_out (g.S.Shelf.held c.args.shelf.now) _ replies c.in-Ok.close _ _ _ _ _ written (c.tell.ensures.told (closed c.in-Ok.close written.0) c.status.ensures.status c.note.ensures) carried

pub returns-in-Ok-clause-words : goal.returns-in-Ok-clause-words
returns-in-Ok-clause-words g c one =
    close_is_no_refusal c.in-Ok.close [] _ _ _ 1 (omega arith) refl (c.tell.ensures.told (closed c.in-Ok.close []) c.status.ensures.status c.note.ensures) one

pub returns-in-Ok-clause-refused : goal.returns-in-Ok-clause-refused
returns-in-Ok-clause-refused g c (inl one) = close_is_no_refusal c.in-Ok.close [] _ _ _ 1 (omega arith) refl (c.tell.ensures.told (closed c.in-Ok.close []) c.status.ensures.status c.note.ensures) one
returns-in-Ok-clause-refused g c (inr (inl two)) = close_is_no_refusal c.in-Ok.close [] _ _ _ 2 (omega arith) refl (c.tell.ensures.told (closed c.in-Ok.close []) c.status.ensures.status c.note.ensures) two
returns-in-Ok-clause-refused g c (inr (inr (inl three))) = close_is_no_refusal c.in-Ok.close [] _ _ _ 3 (omega arith) refl (c.tell.ensures.told (closed c.in-Ok.close []) c.status.ensures.status c.note.ensures) three
returns-in-Ok-clause-refused g c (inr (inr (inr certificate))) = close_is_no_end c.in-Ok.close [] _ _ _ 6 six refl (c.tell.ensures.told (closed c.in-Ok.close []) c.status.ensures.status c.note.ensures) certificate

pub returns-in-Ok-clause-read_fault : goal.returns-in-Ok-clause-read_fault
returns-in-Ok-clause-read_fault g c three =
    close_is_no_refusal c.in-Ok.close [] _ _ _ 3 (omega arith) refl (c.tell.ensures.told (closed c.in-Ok.close []) c.status.ensures.status c.note.ensures) three

pub returns-in-Ok-clause-missed : goal.returns-in-Ok-clause-missed
returns-in-Ok-clause-missed g c seven =
    c.in-Ok.ensures.missed.0 (seven_is_missed Refusal c.in-Ok.close [] _ _ _ (c.tell.ensures.told (closed c.in-Ok.close []) c.status.ensures.status c.note.ensures) seven)

pub returns-in-Ok-clause-missed_rose : goal.returns-in-Ok-clause-missed_rose
returns-in-Ok-clause-missed_rose g c rises =
    missed_ends Refusal c.in-Ok.close [] _ _ _ (c.tell.ensures.told (closed c.in-Ok.close []) c.status.ensures.status c.note.ensures) (c.in-Ok.ensures.missed.1 rises)

pub returns-in-Ok-clause-steady : goal.returns-in-Ok-clause-steady
returns-in-Ok-clause-steady g c steady =
    never_early Refusal c.in-Ok.close [] _ _ _ (c.tell.ensures.told (closed c.in-Ok.close []) c.status.ensures.status c.note.ensures) (c.in-Ok.ensures.steady steady)

-- ---- refused

pub returns-in-Err-Refused-clause-ends : goal.returns-in-Err-Refused-clause-ends
returns-in-Err-Refused-clause-ends g c replies are =
    let written = rw c.in-Err-Refused.field-0-is at (c.in-Err-Refused.ensures.written true replies (λ e. absurd cc) are) in
    let told = c.tell-in-Err-Refused.ensures.told (refusal_told c.in-Err-Refused.refusal) c.status_of.ensures.status c.note_of.ensures in
    told_answers _ (refusal_told c.in-Err-Refused.refusal) _ _ _ _ _ written.1 (nothing_is_written c.in-Err-Refused.refusal _ _ written.0) (rw c.status_of.ensures.status at c.status_of.ensures.not_cut) told

pub returns-in-Err-Refused-clause-calm : goal.returns-in-Err-Refused-clause-calm
returns-in-Err-Refused-clause-calm g c replies are calm =
    let written = rw c.in-Err-Refused.field-0-is at (c.in-Err-Refused.ensures.written false replies (λ e. calm) are) in
    let told = c.tell-in-Err-Refused.ensures.told (refusal_told c.in-Err-Refused.refusal) c.status_of.ensures.status c.note_of.ensures in
    told_answers _ (refusal_told c.in-Err-Refused.refusal) _ _ _ _ _ written.1 (nothing_is_written c.in-Err-Refused.refusal _ _ written.0) (rw c.status_of.ensures.status at c.status_of.ensures.not_cut) told

pub returns-in-Err-Refused-clause-carried_out : goal.returns-in-Err-Refused-clause-carried_out
returns-in-Err-Refused-clause-carried_out g c replies are carried =
    refusal_is_no_result c.in-Err-Refused.refusal _ _ _ (c.tell-in-Err-Refused.ensures.told (refusal_told c.in-Err-Refused.refusal) c.status_of.ensures.status c.note_of.ensures) carried

pub returns-in-Err-Refused-clause-words : goal.returns-in-Err-Refused-clause-words
returns-in-Err-Refused-clause-words g c one =
    let told = c.tell-in-Err-Refused.ensures.told (refusal_told c.in-Err-Refused.refusal) c.status_of.ensures.status c.note_of.ensures in
    let none = status_of_words c.in-Err-Refused.refusal (refusal_status c.in-Err-Refused.refusal _ _ _ 1 (omega arith) told one) in
    c.in-Err-Refused.ensures.words (ap Err (c.in-Err-Refused.field-0-is ∙ ap Refused none))

pub returns-in-Err-Refused-clause-no_request : goal.returns-in-Err-Refused-clause-no_request
returns-in-Err-Refused-clause-no_request g c none =
    let told = c.tell-in-Err-Refused.ensures.told (refusal_told c.in-Err-Refused.refusal) c.status_of.ensures.status c.note_of.ensures in
    told_or_cut (refusal_told c.in-Err-Refused.refusal) _ _ _ 1 told (words_refused (Err c.in-Err-Refused.field-0) _ _ refl c.in-Err-Refused.field-0-is (c.in-Err-Refused.ensures.no_request none))

pub returns-in-Err-Refused-clause-refused : goal.returns-in-Err-Refused-clause-refused
returns-in-Err-Refused-clause-refused g c status = c.in-Err-Refused.ensures.refused (rw c.in-Err-Refused.field-0-is refl)

pub returns-in-Err-Refused-clause-began : goal.returns-in-Err-Refused-clause-began
returns-in-Err-Refused-clause-began g c carried =
    refusal_is_no_result c.in-Err-Refused.refusal _ _ _ (c.tell-in-Err-Refused.ensures.told (refusal_told c.in-Err-Refused.refusal) c.status_of.ensures.status c.note_of.ensures) carried

pub returns-in-Err-Refused-clause-missed : goal.returns-in-Err-Refused-clause-missed
returns-in-Err-Refused-clause-missed g c seven =
    refusal_is_no_result c.in-Err-Refused.refusal _ _ _ (c.tell-in-Err-Refused.ensures.told (refusal_told c.in-Err-Refused.refusal) c.status_of.ensures.status c.note_of.ensures) (ap is_carried_out seven)

pub returns-in-Err-Refused-clause-steady : goal.returns-in-Err-Refused-clause-steady
returns-in-Err-Refused-clause-steady g c steady =
    let told = c.tell-in-Err-Refused.ensures.told (refusal_told c.in-Err-Refused.refusal) c.status_of.ensures.status c.note_of.ensures in
    ((λ seven. refusal_is_no_result c.in-Err-Refused.refusal _ _ _ told (ap is_carried_out seven)), λ eight. refusal_is_no_result c.in-Err-Refused.refusal _ _ _ told (ap is_carried_out eight))

pub returns-in-Err-Refused-clause-read_fault : goal.returns-in-Err-Refused-clause-read_fault
returns-in-Err-Refused-clause-read_fault g c three =
    let told = c.tell-in-Err-Refused.ensures.told (refusal_told c.in-Err-Refused.refusal) c.status_of.ensures.status c.note_of.ensures in
    (status_of_read Close c.in-Err-Refused.refusal _ _ (rw c.in-Err-Refused.field-0-is at c.in-Err-Refused.ensures.shelf_cause)).0 (refusal_status c.in-Err-Refused.refusal _ _ _ 3 (omega arith) told three)

pub returns-in-Err-Refused-clause-read_rose : goal.returns-in-Err-Refused-clause-read_rose
returns-in-Err-Refused-clause-read_rose g c rose =
    let told = c.tell-in-Err-Refused.ensures.told (refusal_told c.in-Err-Refused.refusal) c.status_of.ensures.status c.note_of.ensures in
    told_or_cut (refusal_told c.in-Err-Refused.refusal) _ _ _ 3 told ((status_of_read Close c.in-Err-Refused.refusal _ _ (rw c.in-Err-Refused.field-0-is at c.in-Err-Refused.ensures.shelf_cause)).1 rose)

-- ---- cut short

pub returns-in-Err-WriteFault-clause-ends : goal.returns-in-Err-WriteFault-clause-ends
returns-in-Err-WriteFault-clause-ends g c replies are = cut_answers _ _ _ _ 4 (inl refl) (rw c.in-Err-WriteFault.field-0-is at (c.in-Err-WriteFault.ensures.written true replies (λ e. absurd cc) are))

pub returns-in-Err-WriteFault-clause-calm : goal.returns-in-Err-WriteFault-clause-calm
returns-in-Err-WriteFault-clause-calm g c replies are calm = cut_answers _ _ _ _ 4 (inl refl) (rw c.in-Err-WriteFault.field-0-is at (c.in-Err-WriteFault.ensures.written false replies (λ e. calm) are))

pub returns-in-Err-NoMemory-clause-ends : goal.returns-in-Err-NoMemory-clause-ends
returns-in-Err-NoMemory-clause-ends g c replies are = cut_answers _ _ _ _ 5 (inr refl) (rw c.in-Err-NoMemory.field-0-is at (c.in-Err-NoMemory.ensures.written true replies (λ e. absurd cc) are))

pub returns-in-Err-NoMemory-clause-calm : goal.returns-in-Err-NoMemory-clause-calm
returns-in-Err-NoMemory-clause-calm g c replies are calm = cut_answers _ _ _ _ 5 (inr refl) (rw c.in-Err-NoMemory.field-0-is at (c.in-Err-NoMemory.ensures.written false replies (λ e. calm) are))
