use Rattle.std.proofs.Common.{subst, sym}
use Rattle.bddl_model.specs.Certificate.{IsSharedForm}
use Rattle.bddl_model.specs.CertificateText.{ctext}
use Rattle.bddl_model.specs.Limits.{IsGame}
use Rattle.bddl_model.specs.Setup.{Setup}
use Rattle.std.proofs.lemmas.Result.{err_from_is_err_and}
use Rattle.bddl_model.specs.Outcome.{AcceptedThen, GameThen, RecertifyEnds, done}
use Rattle.request_parts.specs.Ends.{NoCertificate, Nothing, content_told}
use Rattle.request_parts.proofs.Games.{game_then}
use Rattle.request_parts.proofs.Stopping.{stops_in, stops_writing, text_is_cut, text_is_written}
use Rattle.bddl_requests.proofs.Certifying.{recertified, refused_text}
use Rattle.bddl_requests.proofs.recertify.recertify.Goals as goal

pub returns-in_err-setup-clause-written : goal.returns-in_err-setup-clause-written
returns-in_err-setup-clause-written g c =
    let end = err_from_is_err_and c.from_residual.result c.from_residual.ensures.1 in
    let next = AcceptedThen c.args.certificate.now RecertifyEnds in
    let ends = GameThen c.args.domain.now c.args.problem.now next in
    rw (end.1, end.2) (stops_writing content_told ends _ _ (stops_in content_told (GameThen c.args.domain.now c.args.problem.now Nothing) ends _ (λ end e. game_then c.args.domain.now c.args.problem.now next end e) c.in_err-setup.ensures.stop))

pub returns-in_err-nodes-clause-written : goal.returns-in_err-nodes-clause-written
returns-in_err-nodes-clause-written g c =
    let end = err_from_is_err_and c.from_residual-in_err-nodes.result c.from_residual-in_err-nodes.ensures.1 in
    let found = c.in_ok-setup.ensures.found in
    let ends = GameThen c.args.domain.now c.args.problem.now (AcceptedThen c.args.certificate.now RecertifyEnds) in
    rw (end.1, end.2) (stops_writing content_told ends _ _ (stops_in content_told (AcceptedThen c.args.certificate.now NoCertificate c.in_ok-setup.setup) ends _ (refused_text c.args.domain.now c.args.problem.now found.0 found.1 c.in_ok-setup.setup found.2 c.args.certificate.now RecertifyEnds) c.in_err-nodes.ensures.stop))

pub returns-in_err-write_cert-clause-written : goal.returns-in_err-write_cert-clause-written
returns-in_err-write_cert-clause-written g c =
    let end = err_from_is_err_and c.from_residual-in_err-write_cert.result c.from_residual-in_err-write_cert.ensures.1 in
    let found = c.in_ok-setup.ensures.found in
    let read = c.in_ok-nodes.ensures in
    let s = c.in_ok-setup.setup in
    let form = subst (λ nodes. IsSharedForm s nodes c.in_ok-shared.shared) c.as_slice.ensures c.in_ok-shared.ensures.shared in
    let game = subst (λ (s : Setup). IsGame s.game) c.setup.view_is c.keeps_the_limits.ensures in
    let text = c.valid_certificates_have_a_text.ensures s c.in_ok-shared.shared game form.form.valid c.in_ok-shared.ensures.small in
    let told = recertified c.args.domain.now c.args.problem.now found.0 found.1 s found.2 c.args.certificate.now c.in_ok-nodes.nodes read.found read.valid c.in_ok-shared.shared form text in
    let out = subst (λ nodes. GameThen c.args.domain.now c.args.problem.now (AcceptedThen c.args.certificate.now RecertifyEnds) (done (ctext nodes))) (sym c.as_slice-2.ensures) told in
    rw (end.1, end.2) (text_is_cut content_told (GameThen c.args.domain.now c.args.problem.now (AcceptedThen c.args.certificate.now RecertifyEnds)) (ctext c.as_slice-2.result.now) out _ _ c.in_err-write_cert.field-0.0 c.in_err-write_cert.ensures.text)

pub returns-clause-written : goal.returns-clause-written
returns-clause-written g c =
    let found = c.in_ok-setup.ensures.found in
    let read = c.in_ok-nodes.ensures in
    let s = c.in_ok-setup.setup in
    let form = subst (λ nodes. IsSharedForm s nodes c.in_ok-shared.shared) c.as_slice.ensures c.in_ok-shared.ensures.shared in
    let game = subst (λ (s : Setup). IsGame s.game) c.setup.view_is c.keeps_the_limits.ensures in
    let text = c.valid_certificates_have_a_text.ensures s c.in_ok-shared.shared game form.form.valid c.in_ok-shared.ensures.small in
    let told = recertified c.args.domain.now c.args.problem.now found.0 found.1 s found.2 c.args.certificate.now c.in_ok-nodes.nodes read.found read.valid c.in_ok-shared.shared form text in
    let out = subst (λ nodes. GameThen c.args.domain.now c.args.problem.now (AcceptedThen c.args.certificate.now RecertifyEnds) (done (ctext nodes))) (sym c.as_slice-2.ensures) told in
    text_is_written content_told (GameThen c.args.domain.now c.args.problem.now (AcceptedThen c.args.certificate.now RecertifyEnds)) (ctext c.as_slice-2.result.now) out _ _ c.in_ok-write_cert.ensures.text
