use Rattle.std.proofs.lemmas.Result.{err_from_is_err_and}
use Rattle.bddl_model.specs.Outcome.{AcceptedThen, CheckEnds, GameThen}
use Rattle.bddl_model.specs.Verdicts.{accepted_text}
use Rattle.request_parts.specs.Ends.{NoCertificate, Nothing, content_told}
use Rattle.request_parts.proofs.Games.{game_then}
use Rattle.request_parts.proofs.Stopping.{stops_in, stops_writing, text_is_cut, text_is_written}
use Rattle.bddl_requests.proofs.Certifying.{accepted, refused_text}
use Rattle.bddl_requests.proofs.check.check.Goals as goal

pub returns-in_err-setup-clause-written : goal.returns-in_err-setup-clause-written
returns-in_err-setup-clause-written g c =
    let end = err_from_is_err_and c.from_residual.result c.from_residual.ensures.1 in
    let next = AcceptedThen c.args.certificate.now CheckEnds in
    let ends = GameThen c.args.domain.now c.args.problem.now next in
    rw (end.1, end.2) (stops_writing content_told ends _ _ (stops_in content_told (GameThen c.args.domain.now c.args.problem.now Nothing) ends _ (λ end e. game_then c.args.domain.now c.args.problem.now next end e) c.in_err-setup.ensures.stop))

pub returns-in_err-read_accepted-clause-written : goal.returns-in_err-read_accepted-clause-written
returns-in_err-read_accepted-clause-written g c =
    let end = err_from_is_err_and c.from_residual-in_err-read_accepted.result c.from_residual-in_err-read_accepted.ensures.1 in
    let found = c.in_ok-setup.ensures.found in
    let ends = GameThen c.args.domain.now c.args.problem.now (AcceptedThen c.args.certificate.now CheckEnds) in
    rw (end.1, end.2) (stops_writing content_told ends _ _ (stops_in content_told (AcceptedThen c.args.certificate.now NoCertificate c.in_ok-setup.setup) ends _ (refused_text c.args.domain.now c.args.problem.now found.0 found.1 c.in_ok-setup.setup found.2 c.args.certificate.now CheckEnds) c.in_err-read_accepted.ensures.stop))

pub returns-in_err-put_text-clause-written : goal.returns-in_err-put_text-clause-written
returns-in_err-put_text-clause-written g c =
    let end = err_from_is_err_and c.from_residual-in_err-put_text.result c.from_residual-in_err-put_text.ensures.1 in
    let found = c.in_ok-setup.ensures.found in
    let read = c.in_ok-read_accepted.ensures in
    let won = c.valid_certificates_win.ensures c.in_ok-setup.setup c.in_ok-read_accepted.field-0 read.valid in
    let told = accepted c.args.domain.now c.args.problem.now found.0 found.1 c.in_ok-setup.setup found.2 c.args.certificate.now c.in_ok-read_accepted.field-0 read.found read.valid won in
    rw (end.1, end.2) (text_is_cut content_told (GameThen c.args.domain.now c.args.problem.now (AcceptedThen c.args.certificate.now CheckEnds)) accepted_text told _ _ c.in_err-put_text.field-0.0 c.in_err-put_text.ensures.text)

pub returns-clause-written : goal.returns-clause-written
returns-clause-written g c =
    let found = c.in_ok-setup.ensures.found in
    let read = c.in_ok-read_accepted.ensures in
    let won = c.valid_certificates_win.ensures c.in_ok-setup.setup c.in_ok-read_accepted.field-0 read.valid in
    let told = accepted c.args.domain.now c.args.problem.now found.0 found.1 c.in_ok-setup.setup found.2 c.args.certificate.now c.in_ok-read_accepted.field-0 read.found read.valid won in
    text_is_written content_told (GameThen c.args.domain.now c.args.problem.now (AcceptedThen c.args.certificate.now CheckEnds)) accepted_text told _ _ c.in_ok-put_text.ensures.text
