use Rattle.std.proofs.Common.{[], Ok, ap, arith, subst, sym}
use Rattle.std.proofs.lemmas.Result.{err_from_is_err_and}
use Rattle.bddl_model.specs.CertificateText.{ctext}
use Rattle.bddl_model.specs.Outcome.{CertifyEnds, GameThen, States}
use Rattle.bddl_model.specs.Setup.{Setup}
use Rattle.io_edge.proofs.Fronts.{with_bytes_none}
use Rattle.request_parts.specs.Ends.{Nothing, closed, content_told}
use Rattle.request_parts.specs.declared.refusal.Close.TheVariants as close
use Rattle.request_parts.proofs.Games.{game_then}
use Rattle.request_parts.proofs.Stopping.{closed_is_cut, stops_in, stops_writing}
use Rattle.bddl_requests.proofs.Certifying.{certified, not_found, not_won}
use Rattle.bddl_requests.proofs.certify.certify.Goals as goal

pub returns-in_err-setup-clause-written : goal.returns-in_err-setup-clause-written
returns-in_err-setup-clause-written g c =
    let end = err_from_is_err_and c.from_residual.result c.from_residual.ensures.1 in
    let next = CertifyEnds c.args.budget in
    let ends = GameThen c.args.domain.now c.args.problem.now next in
    rw (end.1, end.2) (stops_writing content_told ends _ _ (stops_in content_told (GameThen c.args.domain.now c.args.problem.now Nothing) ends _ (λ end e. game_then c.args.domain.now c.args.problem.now next end e) c.in_err-setup.ensures.stop))

pub returns-in_err-write_cert-in-Won-clause-written : goal.returns-in_err-write_cert-in-Won-clause-written
returns-in_err-write_cert-in-Won-clause-written g c =
    let end = err_from_is_err_and c.from_residual-in_err-write_cert-in-Won.result c.from_residual-in_err-write_cert-in-Won.ensures.1 in
    let ends = GameThen c.args.domain.now c.args.problem.now (CertifyEnds c.args.budget) in
    let s : Setup = record { game = c.setup.inside.game; board = c.setup.inside.board.marks; first = c.setup.inside.first; depth = c.setup.inside.depth } in
    let found = c.in_ok-setup.ensures.found in
    let states = subst (λ s. States c.args.domain.now c.args.problem.now found.0 found.1 (Ok s)) (sym c.setup.view_is) found.2 in
    let shared = rw c.in-Won.is at c.in_ok-nodes.ensures.won in
    let text = c.valid_certificates_have_a_text.ensures s c.in-Won.nodes c.keeps_the_limits.ensures shared.valid (rw c.in-Won.is at c.in_ok-nodes.ensures.small) in
    let told = certified c.args.domain.now c.args.problem.now found.0 found.1 s states c.args.budget c.in-Won.nodes shared text in
    let out = subst (λ nodes. ends (closed close.Yes (ctext nodes))) (sym c.as_slice.ensures) told in
    rw (end.1, end.2) (closed_is_cut content_told ends close.Yes (ctext c.as_slice.result.now) out _ _ c.in_err-write_cert-in-Won.field-0.0 c.in_err-write_cert-in-Won.ensures.text)

pub returns-in-Won-clause-written : goal.returns-in-Won-clause-written
returns-in-Won-clause-written g c =
    let ends = GameThen c.args.domain.now c.args.problem.now (CertifyEnds c.args.budget) in
    let s : Setup = record { game = c.setup.inside.game; board = c.setup.inside.board.marks; first = c.setup.inside.first; depth = c.setup.inside.depth } in
    let found = c.in_ok-setup.ensures.found in
    let states = subst (λ s. States c.args.domain.now c.args.problem.now found.0 found.1 (Ok s)) (sym c.setup.view_is) found.2 in
    let shared = rw c.in-Won.is at c.in_ok-nodes.ensures.won in
    let text = c.valid_certificates_have_a_text.ensures s c.in-Won.nodes c.keeps_the_limits.ensures shared.valid (rw c.in-Won.is at c.in_ok-nodes.ensures.small) in
    let told = certified c.args.domain.now c.args.problem.now found.0 found.1 s states c.args.budget c.in-Won.nodes shared text in
    (ctext c.as_slice.result.now, subst (λ nodes. ends (closed close.Yes (ctext nodes))) (sym c.as_slice.ensures) told, c.in_ok-write_cert-in-Won.ensures.text)

pub returns-in-NotWon-clause-written : goal.returns-in-NotWon-clause-written
returns-in-NotWon-clause-written g c =
    let s : Setup = record { game = c.setup.inside.game; board = c.setup.inside.board.marks; first = c.setup.inside.first; depth = c.setup.inside.depth } in
    let found = c.in_ok-setup.ensures.found in
    let states = subst (λ s. States c.args.domain.now c.args.problem.now found.0 found.1 (Ok s)) (sym c.setup.view_is) found.2 in
    let lost = c.in_ok-nodes.ensures.not_won (ap Ok c.in-NotWon.is) in
    ([], not_won c.args.domain.now c.args.problem.now found.0 found.1 s states c.args.budget lost, sym (with_bytes_none _))

pub returns-clause-written : goal.returns-clause-written
returns-clause-written g c =
    let s : Setup = record { game = c.setup.inside.game; board = c.setup.inside.board.marks; first = c.setup.inside.first; depth = c.setup.inside.depth } in
    let found = c.in_ok-setup.ensures.found in
    let states = subst (λ s. States c.args.domain.now c.args.problem.now found.0 found.1 (Ok s)) (sym c.setup.view_is) found.2 in
    let less = rw c.new-steps.ensures at (c.in_ok-nodes.ensures.spent (ap Ok c.in-Spent.is)).1 in
    ([], not_found c.args.domain.now c.args.problem.now found.0 found.1 s states c.args.budget (omega (arith, less)), sym (with_bytes_none _))
