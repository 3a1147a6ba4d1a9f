use Rattle.std.proofs.Common.{ap, length, inr}
use Rattle.std.proofs.lemmas.Result.{err_from_is_err_and}
use Rattle.cert_text.specs.Reading.{version_of}
use Rattle.cert_text.proofs.HeaderReading.{no_header}
use Rattle.cert_text.proofs.Ending.{counts, fault_told, unused_told, below_told, tree_told, count_told, nodes_told, unreached_told}
use Rattle.cert_text.proofs.read.read_text.Goals as goal

pub returns-in_default-clause-fault : goal.returns-in_default-clause-fault
returns-in_default-clause-fault c = inr (no_header c.args.bytes.now c.in_default.ensures)

pub read_nodes-requires : goal.read_nodes-requires
read_nodes-requires c = counts c.args.bytes.now c.in-Some.rest.now (version_of c.in-Some.version) c.in-Some.count c.in-Some.ensures

pub returns-in_err-nodes-clause-fault : goal.returns-in_err-nodes-clause-fault
returns-in_err-nodes-clause-fault c =
    let p = err_from_is_err_and c.from_residual.result c.from_residual.ensures.1 in
    rw (p.1, p.2) (fault_told c.args.bytes.now c.in-Some.rest.now (version_of c.in-Some.version) c.in-Some.count c.in-Some.ensures _ c.in_err-nodes.ensures.fault)

pub returns-then-not-is_empty-clause-fault : goal.returns-then-not-is_empty-clause-fault
returns-then-not-is_empty-clause-fault c =
    inr (unused_told c.args.bytes.now c.in-Some.rest.now c.in_ok-nodes.rest.now (version_of c.in-Some.version) c.in-Some.count c.in_ok-nodes.nodes c.in-Some.ensures c.in_ok-nodes.ensures.nodes
    _ (ap length c.as_slice.ensures) c.if-not-is_empty.ensures)

pub all_reached-requires : goal.all_reached-requires
all_reached-requires c =
    below_told c.args.bytes.now c.in-Some.rest.now c.in_ok-nodes.rest.now (version_of c.in-Some.version) c.in-Some.count c.in_ok-nodes.nodes c.in-Some.ensures c.in_ok-nodes.ensures.nodes
    (ap version_of c.in-Numbered.is) c.if-not-is_empty.ensures

pub returns-in-Ordered-clause-cert : goal.returns-in-Ordered-clause-cert
returns-in-Ordered-clause-cert c =
    tree_told c.args.bytes.now c.in-Some.rest.now c.in_ok-nodes.rest.now (version_of c.in-Some.version) c.in-Some.count c.in_ok-nodes.nodes c.in-Some.ensures c.in_ok-nodes.ensures.nodes
    c.whole_tree.result c.if-not-is_empty.ensures (ap version_of c.in-Ordered.is) c.as_slice-in-Ordered.result.now c.as_slice-in-Ordered.ensures c.whole_tree.ensures.tree

pub returns-in-Ordered-clause-fault : goal.returns-in-Ordered-clause-fault
returns-in-Ordered-clause-fault c =
    count_told c.args.bytes.now c.in-Some.rest.now c.in_ok-nodes.rest.now (version_of c.in-Some.version) c.in-Some.count c.in_ok-nodes.nodes c.in-Some.ensures c.in_ok-nodes.ensures.nodes
    c.whole_tree.result c.if-not-is_empty.ensures (ap version_of c.in-Ordered.is) c.as_slice-in-Ordered.result.now c.as_slice-in-Ordered.ensures c.whole_tree.ensures.fault

pub returns-in-Numbered-clause-cert : goal.returns-in-Numbered-clause-cert
returns-in-Numbered-clause-cert c =
    nodes_told c.args.bytes.now c.in-Some.rest.now c.in_ok-nodes.rest.now (version_of c.in-Some.version) c.in-Some.count c.in_ok-nodes.nodes c.in-Some.ensures c.in_ok-nodes.ensures.nodes
    c.all_reached.result c.if-not-is_empty.ensures (ap version_of c.in-Numbered.is) c.all_reached.ensures.nodes

pub returns-in-Numbered-clause-fault : goal.returns-in-Numbered-clause-fault
returns-in-Numbered-clause-fault c =
    unreached_told c.args.bytes.now c.in-Some.rest.now c.in_ok-nodes.rest.now (version_of c.in-Some.version) c.in-Some.count c.in_ok-nodes.nodes c.in-Some.ensures c.in_ok-nodes.ensures.nodes
    c.all_reached.result c.if-not-is_empty.ensures (ap version_of c.in-Numbered.is) c.all_reached.ensures.fault
