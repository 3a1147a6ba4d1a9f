use Rattle.std.proofs.Common.{sym, refl, ◌∙◌, Ok, arith}
use Rattle.std.proofs.lemmas.Result.{err_from_is_err_and}
use Rattle.bddl_model.specs.Outcome.{TrialEnds}
use Rattle.bddl_model.specs.Setup.{Setup}
use Rattle.request_parts.specs.Ends.{content_told}
use Rattle.request_parts.proofs.Stopping.{closed_is_cut}
use Rattle.bddl_requests.specs.Decisions.{trial_close}
use Rattle.bddl_requests.proofs.Deciding.{trial_is_decided}
use Rattle.bddl_requests.proofs.trial.trial.Goals as goal

pub returns-in_err-put_text-clause-written : goal.returns-in_err-put_text-clause-written
returns-in_err-put_text-clause-written g c =
    let end = err_from_is_err_and c.from_residual-in_err-put_text.result c.from_residual-in_err-put_text.ensures.1 in
    let ends = TrialEnds c.args.number c.args.budget in
    let big : Setup = record { game = c.large.inside.game; board = c.large.inside.board.marks; first = c.large.inside.first; depth = c.large.inside.depth } in
    let s : Setup = record { game = c.small.inside.game; board = c.small.inside.board.marks; first = c.small.inside.first; depth = c.small.inside.depth } in
    let decided = c.in_ok-decided.ensures in
    let told = trial_is_decided c.args.number c.args.budget c.in_ok-large.large s c.in_ok-large.ensures (c.small.view_is ∙ c.in_ok-small.ensures) (Ok c.in_ok-decided.decided) decided.won decided.not_won (λ e. let less = rw c.new-steps.ensures at (decided.spent e).1 in omega (arith, less)) c.in_ok-decided.decided refl c.as_bytes.result.now (rw (sym c.small.view_is) at (c.as_bytes.ensures.value ∙ c.in_ok-text.ensures)) in
    rw (end.1, end.2) (closed_is_cut content_told ends (trial_close c.in_ok-decided.decided) c.as_bytes.result.now told _ _ c.in_err-put_text.field-0.0 c.in_err-put_text.ensures.text)

pub returns-clause-written : goal.returns-clause-written
returns-clause-written g c =
    let ends = TrialEnds c.args.number c.args.budget in
    let s : Setup = record { game = c.small.inside.game; board = c.small.inside.board.marks; first = c.small.inside.first; depth = c.small.inside.depth } in
    let decided = c.in_ok-decided.ensures in
    let told = trial_is_decided c.args.number c.args.budget c.in_ok-large.large s c.in_ok-large.ensures (c.small.view_is ∙ c.in_ok-small.ensures) (Ok c.in_ok-decided.decided) decided.won decided.not_won (λ e. let less = rw c.new-steps.ensures at (decided.spent e).1 in omega (arith, less)) c.in_ok-decided.decided refl c.as_bytes.result.now (rw (sym c.small.view_is) at (c.as_bytes.ensures.value ∙ c.in_ok-text.ensures)) in
    (c.as_bytes.result.now, rw c.close_of.ensures told, c.in_ok-put_text.ensures.text)
