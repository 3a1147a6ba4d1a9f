use Rattle.std.proofs.Common.{[], ◌∷◌, ◌∙◌, map, refl, sym}
use Rattle.bddl_model.specs.declared.command.Command.TheVariants.{Play}
use Rattle.bddl_model.specs.Outcome.{ContentEnds}
use Rattle.bddl_model.specs.Request.{limits_of}
use Rattle.request_parts.proofs.Files.{within_length}
use Rattle.bddl_requests.proofs.Answered.{three_files, written_with}
use Rattle.bddl_requests.proofs.Early.{is_alone, is_play, none_counted, wrote_nothing}
use Rattle.bddl_requests.proofs.Seats.{play_begins}
use Rattle.bddl_requests.proofs.program.answer.Goals as goal

pub returns-in-Some-clause-written : goal.returns-in-Some-clause-written
returns-in-Some-clause-written g c replies are =
    let named = sym c.opponent.ensures ∙ c.in-Some.is in
    let play = is_play c.args.request.now.command c.args.request.now.numbers.items c.in-Some.who c.index.result.now named c.requires.numbers c.index.ensures in
    let three = rw play.0 at (within_length (limits_of c.args.request.now.command) (map (λ w. w.items) c.args.contents.now) c.requires.within) in
    let files = three_files (λ w. w.items) c.args.contents.now c.index-contents-0.result c.index-contents-1.result c.index-contents-2.result c.deref.result.now c.deref-in-Some.result.now c.deref-in-Some-2.result.now three c.index-contents-0.is c.index-contents-1.is c.index-contents-2.is c.deref.ensures.value c.deref-in-Some.ensures.value c.deref-in-Some-2.ensures.value in
    written_with Play _ _ _ _ replies _ _ _ play.0 files (c.in-Some.who ∷ c.index.result.now ∷ []) play.1 (c.play_at.ensures.written replies (rw named at are))

pub returns-in-Some-clause-began : goal.returns-in-Some-clause-began
returns-in-Some-clause-began g c =
    let named = sym c.opponent.ensures ∙ c.in-Some.is in
    let play = is_play c.args.request.now.command c.args.request.now.numbers.items c.in-Some.who c.index.result.now named c.requires.numbers c.index.ensures in
    play_begins c.play_at.result _ _ _ c.in-Some.who c.index.result.now _ play.0 play.1 c.play_at.ensures.began

pub returns-in-None-clause-written : goal.returns-in-None-clause-written
returns-in-None-clause-written g c replies are = c.answer_alone.ensures.written replies

pub returns-in-None-clause-missed : goal.returns-in-None-clause-missed
returns-in-None-clause-missed g c =
    let alone = sym c.opponent.ensures ∙ c.in-None.is in
    none_counted _ _ _ _ _ alone (is_alone _ _ _ _ _ c.answer_alone.result alone (c.answer_alone.ensures.written [])).0

pub returns-in-None-clause-steady : goal.returns-in-None-clause-steady
returns-in-None-clause-steady g c steady =
    let alone = sym c.opponent.ensures ∙ c.in-None.is in
    (is_alone _ _ _ _ _ c.answer_alone.result alone (c.answer_alone.ensures.written [])).1

pub returns-in-None-clause-refused : goal.returns-in-None-clause-refused
returns-in-None-clause-refused g c refused = (wrote_nothing (ContentEnds c.args.request.now.command (map (λ w. w.items) c.args.contents.now) c.args.request.now.numbers.items []) _ _ c.answer_alone.result (c.answer_alone.ensures.written []) refused, refl)
