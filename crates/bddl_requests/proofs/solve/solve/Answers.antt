use Rattle.std.proofs.Common.{Ok, arith, refl, subst, sym, ◌∙◌}
use Rattle.std.proofs.lemmas.Result.{err_from_is_err_and}
use Rattle.bddl_model.specs.Outcome.{GameThen, SolveEnds, States}
use Rattle.bddl_model.specs.Setup.{Setup}
use Rattle.request_parts.specs.Ends.{Nothing, closed, content_told}
use Rattle.request_parts.proofs.Games.{game_then}
use Rattle.request_parts.proofs.Stopping.{closed_is_cut, stops_in, stops_writing}
use Rattle.bddl_requests.specs.Decisions.{decided_close}
use Rattle.bddl_requests.proofs.Deciding.{game_is_decided}
use Rattle.bddl_requests.proofs.solve.solve.Goals as goal

pub returns-in_err-setup-clause-written : goal.returns-in_err-setup-clause-written
returns-in_err-setup-clause-written g c =
    let end = err_from_is_err_and c.from_residual.result c.from_residual.ensures.1 in
    let ends = GameThen c.args.domain.now c.args.problem.now (SolveEnds c.args.budget) in
    rw (end.1, end.2) (stops_writing content_told ends _ _ (stops_in content_told (GameThen c.args.domain.now c.args.problem.now Nothing) ends _ (λ end e. game_then c.args.domain.now c.args.problem.now (SolveEnds c.args.budget) end e) c.in_err-setup.ensures.stop))

pub returns-in_err-put_text-clause-written : goal.returns-in_err-put_text-clause-written
returns-in_err-put_text-clause-written g c =
    let end = err_from_is_err_and c.from_residual-in_err-put_text.result c.from_residual-in_err-put_text.ensures.1 in
    let ends = GameThen c.args.domain.now c.args.problem.now (SolveEnds c.args.budget) in
    let s : Setup = record { game = c.setup.inside.game; board = c.setup.inside.board.marks; first = c.setup.inside.first; depth = c.setup.inside.depth } in
    let found = c.in_ok-setup.ensures.found in
    let states = subst (λ s. States c.args.domain.now c.args.problem.now found.0 found.1 (Ok s)) (sym c.setup.view_is) found.2 in
    let decided = c.in_ok-decided.ensures in
    let told = game_is_decided s c.args.budget (Ok c.in_ok-decided.decided) decided.won decided.not_won (λ e. let less = rw c.new-steps.ensures at (decided.spent e).1 in omega (arith, less)) c.args.domain.now c.args.problem.now found.0 found.1 states c.in_ok-decided.decided refl in
    let out = subst (λ t. ends (closed (decided_close c.in_ok-decided.decided) t)) (sym (c.as_bytes.ensures.value ∙ c.text_of.ensures)) told in
    rw (end.1, end.2) (closed_is_cut content_told ends (decided_close c.in_ok-decided.decided) c.as_bytes.result.now out _ _ c.in_err-put_text.field-0.0 c.in_err-put_text.ensures.text)

pub returns-clause-written : goal.returns-clause-written
returns-clause-written g c =
    let ends = GameThen c.args.domain.now c.args.problem.now (SolveEnds c.args.budget) in
    let s : Setup = record { game = c.setup.inside.game; board = c.setup.inside.board.marks; first = c.setup.inside.first; depth = c.setup.inside.depth } in
    let found = c.in_ok-setup.ensures.found in
    let states = subst (λ s. States c.args.domain.now c.args.problem.now found.0 found.1 (Ok s)) (sym c.setup.view_is) found.2 in
    let decided = c.in_ok-decided.ensures in
    let told = game_is_decided s c.args.budget (Ok c.in_ok-decided.decided) decided.won decided.not_won (λ e. let less = rw c.new-steps.ensures at (decided.spent e).1 in omega (arith, less)) c.args.domain.now c.args.problem.now found.0 found.1 states c.in_ok-decided.decided refl in
    let out = subst (λ t. ends (closed (decided_close c.in_ok-decided.decided) t)) (sym (c.as_bytes.ensures.value ∙ c.text_of.ensures)) told in
    (c.as_bytes.result.now, rw c.close_of.ensures out, c.in_ok-put_text.ensures.text)
