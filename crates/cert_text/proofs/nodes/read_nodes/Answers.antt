use Rattle.std.proofs.Common.{◌≡◌, ◌-◌, suc, length, arith, ap}
use Rattle.std.proofs.lemmas.List.{length_push}
use Rattle.std.proofs.lemmas.Result.{err_from_is_err_and}
use Rattle.cert_text.specs.Reading.{version_of}
use Rattle.cert_text.proofs.Following.{shorter, grows, reads_on, node_fails}
use Rattle.cert_text.proofs.nodes.read_nodes.Goals as goal

pub returns-in_err-node-clause-fault : goal.returns-in_err-node-clause-fault
returns-in_err-node-clause-fault c =
    let p = err_from_is_err_and c.from_residual.result c.from_residual.ensures.1 in
    let some : c.nodes.due ≡ suc (c.nodes.due - 1) = omega arith in
    rw (p.1, p.2) (node_fails _ (version_of c.args.version) c.args.count c.nodes.due (c.nodes.due - 1) _ c.nodes.nodes c.nodes.rest.now c.in_err-node.field-0.0 some (ap length c.as_slice.ensures) c.nodes.invariant.reads c.in_err-node.ensures)

pub nodes-smaller : goal.nodes-smaller
nodes-smaller c = shorter (version_of c.args.version) c.args.count _ c.nodes.rest.now c.in_ok-node.behind.now c.in_ok-node.node c.in_ok-node.ensures

pub nodes-preserved : goal.nodes-preserved
nodes-preserved c =
    let some : c.nodes.due ≡ suc (c.nodes.due - 1) = omega arith in
    let more = grows (version_of c.args.version) c.args.count _ (c.nodes.due - 1) c.nodes.rest.now c.in_ok-node.behind.now c.in_ok-node.node c.in_ok-node.ensures in
    let longer = length_push c.nodes.nodes c.in_ok-node.node in
    let few = c.nodes.invariant.few in
    rw (c.in_ok-push.ensures.ok, c.due_behind-due.ensures) (record {
      reads = reads_on _ (version_of c.args.version) c.args.count c.nodes.due (c.nodes.due - 1) _ c.nodes.nodes c.nodes.rest.now c.in_ok-node.behind.now c.in_ok-node.node some (ap length c.as_slice.ensures) c.nodes.invariant.reads c.in_ok-node.ensures;
      few = omega arith;
    })
