use Rattle.std.proofs.Common.{Ok, Err, subst}
use Rattle.std.proofs.lemmas.Result.{err_from_is_err_and}
use Rattle.bddl_model.specs.Outcome.{CompileEnds, GameThen}
use Rattle.request_parts.specs.Ends.{Nothing, content_told}
use Rattle.strategy.specs.Written.{WritesForm}
use Rattle.bddl_requests.proofs.Built.{form_is_written, form_is_cut}
use Rattle.request_parts.proofs.Games.{game_then}
use Rattle.request_parts.proofs.Stopping.{stops_in, stops_writing}
use Rattle.bddl_requests.proofs.compile.compile.Goals as goal

pub returns-in_err-setup-clause-written : goal.returns-in_err-setup-clause-written
returns-in_err-setup-clause-written g c =
    let end = err_from_is_err_and c.from_residual.result c.from_residual.ensures.1 in
    let ends = GameThen c.args.domain.now c.args.problem.now (CompileEnds c.args.domain.now c.args.problem.now) in
    rw (end.1, end.2) (stops_writing content_told ends _ _ (stops_in content_told (GameThen c.args.domain.now c.args.problem.now Nothing) ends _ (λ end e. game_then c.args.domain.now c.args.problem.now (CompileEnds c.args.domain.now c.args.problem.now) end e) c.in_err-setup.ensures.stop))

pub returns-in_err-compile_to-clause-written : goal.returns-in_err-compile_to-clause-written
returns-in_err-compile_to-clause-written g c =
    let end = err_from_is_err_and c.from_residual-in_err-compile_to.result c.from_residual-in_err-compile_to.ensures.1 in
    let found = c.in_ok-setup.ensures.found in
    let text = subst (λ s. WritesForm s (g.K.Sink.written c.args.out.now) (g.K.Sink.written c.compile_to.new.sink) (Err c.in_err-compile_to.field-0.0)) c.setup.view_is c.in_err-compile_to.ensures.text in
    rw (end.1, end.2) (form_is_cut c.args.domain.now c.args.problem.now found.0 found.1 c.in_ok-setup.setup found.2 c.text_is_read.ensures.one_form _ _ c.in_err-compile_to.field-0.0 text)

pub returns-clause-written : goal.returns-clause-written
returns-clause-written g c =
    let found = c.in_ok-setup.ensures.found in
    let text = subst (λ s. WritesForm s (g.K.Sink.written c.args.out.now) (g.K.Sink.written c.compile_to.new.sink) (Ok tt)) c.setup.view_is c.in_ok-compile_to.ensures.text in
    form_is_written c.args.domain.now c.args.problem.now found.0 found.1 c.in_ok-setup.setup found.2 c.text_is_read.ensures.one_form _ _ tt text
