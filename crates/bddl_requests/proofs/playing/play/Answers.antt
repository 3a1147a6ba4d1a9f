use Rattle.std.proofs.Common.{Ok, Err}
use Rattle.std.proofs.lemmas.Result.{err_from_is_err_and}
use Rattle.bddl_model.specs.Outcome.{AcceptedThen, GameThen, PlayEnds}
use Rattle.request_parts.specs.Ends.{NoCertificate, Nothing, content_told}
use Rattle.request_parts.proofs.Games.{game_then}
use Rattle.request_parts.proofs.Stopping.{stops_in, stops_writing}
use Rattle.bddl_requests.proofs.Certifying.{refused_text}
use Rattle.bddl_requests.proofs.Transcripts.{by_replies, play_bad, play_cut, play_gone, play_reached, play_wants}
use Rattle.bddl_requests.proofs.playing.play.Goals as goal

pub returns-in_err-setup-clause-written : goal.returns-in_err-setup-clause-written
returns-in_err-setup-clause-written g c replies are =
    let end = err_from_is_err_and c.from_residual.result c.from_residual.ensures.1 in
    let next = AcceptedThen c.args.certificate.now (PlayEnds replies) in
    let ends = GameThen c.args.domain.now c.args.problem.now next in
    rw (end.1, end.2) (stops_writing content_told ends _ _ (stops_in content_told (GameThen c.args.domain.now c.args.problem.now Nothing) ends _ (λ end e. game_then c.args.domain.now c.args.problem.now next end e) c.in_err-setup.ensures.stop))

pub returns-in_err-nodes-clause-written : goal.returns-in_err-nodes-clause-written
returns-in_err-nodes-clause-written g c replies are =
    let end = err_from_is_err_and c.from_residual-in_err-nodes.result c.from_residual-in_err-nodes.ensures.1 in
    let found = c.in_ok-setup.ensures.found in
    let ends = GameThen c.args.domain.now c.args.problem.now (AcceptedThen c.args.certificate.now (PlayEnds replies)) in
    rw (end.1, end.2) (stops_writing content_told ends _ _ (stops_in content_told (AcceptedThen c.args.certificate.now NoCertificate c.in_ok-setup.setup) ends _ (refused_text c.args.domain.now c.args.problem.now found.0 found.1 c.in_ok-setup.setup found.2 c.args.certificate.now (PlayEnds replies)) c.in_err-nodes.ensures.stop))

pub returns-in_err-play-clause-written : goal.returns-in_err-play-clause-written
returns-in_err-play-clause-written g c replies are =
    let end = err_from_is_err_and c.from_residual-in_err-play.result c.from_residual-in_err-play.ensures.1 in
    let found = c.in_ok-setup.ensures.found in
    let read = c.in_ok-nodes.ensures in
    let laws = c.plays_reach_the_goal.ensures in
    let s = c.in_ok-setup.setup in
    let nodes = c.in_ok-nodes.nodes in
    let told = by_replies s nodes _ replies _ (g.K.Sink.written c.args.out.now) (g.K.Sink.written c.play.new.sink) (Err c.in_err-play.field-0.0) _ _ (rw c.as_slice.ensures at c.in_err-play.ensures.told) (rw c.as_slice.ensures at c.in_err-play.ensures.left) are in
    rw (end.1, end.2) (play_wants c.args.domain.now c.args.problem.now found.0 found.1 s found.2 c.args.certificate.now nodes read.found read.valid (λ rs. laws.ends s nodes rs read.valid) (λ rs. laws.reaches s nodes rs read.valid) replies _ _ c.in_err-play.field-0.0 told)

pub returns-in-Reached-clause-written : goal.returns-in-Reached-clause-written
returns-in-Reached-clause-written g c replies are =
    let found = c.in_ok-setup.ensures.found in
    let read = c.in_ok-nodes.ensures in
    let laws = c.plays_reach_the_goal.ensures in
    let s = c.in_ok-setup.setup in
    let nodes = c.in_ok-nodes.nodes in
    let told = by_replies s nodes _ replies _ (g.K.Sink.written c.args.out.now) (g.K.Sink.written c.play.new.sink) (Ok c.in_ok-play.field-0) _ _ (rw c.as_slice.ensures at c.in_ok-play.ensures.told) (rw c.as_slice.ensures at c.in_ok-play.ensures.left) are in
    play_reached c.args.domain.now c.args.problem.now found.0 found.1 s found.2 c.args.certificate.now nodes read.found read.valid (λ rs. laws.ends s nodes rs read.valid) (λ rs. laws.reaches s nodes rs read.valid) replies _ _ c.in-Reached.plies (rw c.in-Reached.is at told)

pub returns-in-Gone-clause-written : goal.returns-in-Gone-clause-written
returns-in-Gone-clause-written g c replies are =
    let found = c.in_ok-setup.ensures.found in
    let read = c.in_ok-nodes.ensures in
    let laws = c.plays_reach_the_goal.ensures in
    let s = c.in_ok-setup.setup in
    let nodes = c.in_ok-nodes.nodes in
    let told = by_replies s nodes _ replies _ (g.K.Sink.written c.args.out.now) (g.K.Sink.written c.play.new.sink) (Ok c.in_ok-play.field-0) _ _ (rw c.as_slice.ensures at c.in_ok-play.ensures.told) (rw c.as_slice.ensures at c.in_ok-play.ensures.left) are in
    play_gone c.args.domain.now c.args.problem.now found.0 found.1 s found.2 c.args.certificate.now nodes read.found read.valid (λ rs. laws.ends s nodes rs read.valid) (λ rs. laws.reaches s nodes rs read.valid) replies _ _ (rw c.in-Gone.is at told)

pub returns-in-BadReply-clause-written : goal.returns-in-BadReply-clause-written
returns-in-BadReply-clause-written g c replies are =
    let found = c.in_ok-setup.ensures.found in
    let read = c.in_ok-nodes.ensures in
    let laws = c.plays_reach_the_goal.ensures in
    let s = c.in_ok-setup.setup in
    let nodes = c.in_ok-nodes.nodes in
    let told = by_replies s nodes _ replies _ (g.K.Sink.written c.args.out.now) (g.K.Sink.written c.play.new.sink) (Ok c.in_ok-play.field-0) _ _ (rw c.as_slice.ensures at c.in_ok-play.ensures.told) (rw c.as_slice.ensures at c.in_ok-play.ensures.left) are in
    play_bad c.args.domain.now c.args.problem.now found.0 found.1 s found.2 c.args.certificate.now nodes read.found read.valid (λ rs. laws.ends s nodes rs read.valid) (λ rs. laws.reaches s nodes rs read.valid) replies _ _ c.in-BadReply.number c.in-BadReply.count (rw c.in-BadReply.is at told)

pub returns-clause-written : goal.returns-clause-written
returns-clause-written g c replies are =
    let found = c.in_ok-setup.ensures.found in
    let read = c.in_ok-nodes.ensures in
    let laws = c.plays_reach_the_goal.ensures in
    let s = c.in_ok-setup.setup in
    let nodes = c.in_ok-nodes.nodes in
    let told = by_replies s nodes _ replies _ (g.K.Sink.written c.args.out.now) (g.K.Sink.written c.play.new.sink) (Ok c.in_ok-play.field-0) _ _ (rw c.as_slice.ensures at c.in_ok-play.ensures.told) (rw c.as_slice.ensures at c.in_ok-play.ensures.left) are in
    play_cut c.args.domain.now c.args.problem.now found.0 found.1 s found.2 c.args.certificate.now nodes read.found read.valid (λ rs. laws.ends s nodes rs read.valid) (λ rs. laws.reaches s nodes rs read.valid) replies _ _ (rw c.in-WriteFault.is at told)
