use Rattle.std.proofs.Common.{length, nat_eq, ap, ◌∙◌, arith, length-append}
use Rattle.indexmap.specs.IndexSet.{insert_key}
use Rattle.cert_checker.proofs.Sharings.{number_read, node_read, answers_inside, shared_start, shared_on, order_short, shared_form}
use Rattle.cert_checker.proofs.sharing.share_least.Goals as goal

pub nodes-init : goal.nodes-init
nodes-init c = shared_start c.args.setup.now c.args.nodes.now c.requires.valid c.insert.new.self.keys c.new-shared.result (c.in_ok-insert.ensures.keys ∙ ap (λ ks. insert_key nat_eq ks 0) c.new-order.ensures.empty) c.new-shared.ensures

pub offset_bounds-nodes-number : goal.offset_bounds-nodes-number
offset_bounds-nodes-number c =
    let here = number_read c.args.setup.now c.args.nodes.now c.nodes.order.keys c.as_slice-in-nodes.result.now c.nodes.shared c.in-Some.number.now c.nodes.invariant c.as_slice-in-nodes.ensures c.in-Some.ensures.key in
    let low = here.1 in
    omega arith

pub bounds-nodes-number : goal.bounds-nodes-number
bounds-nodes-number c =
    let here = number_read c.args.setup.now c.args.nodes.now c.nodes.order.keys c.as_slice-in-nodes.result.now c.nodes.shared c.in-Some.number.now c.nodes.invariant c.as_slice-in-nodes.ensures c.in-Some.ensures.key in here.1

pub renamed_node-requires : goal.renamed_node-requires
renamed_node-requires c =
    let here = number_read c.args.setup.now c.args.nodes.now c.nodes.order.keys c.as_slice-in-nodes.result.now c.nodes.shared c.in-Some.number.now c.nodes.invariant c.as_slice-in-nodes.ensures c.in-Some.ensures.key in
    let node = node_read c.args.nodes.now c.in-Some.number.now c.index-nodes-number.result here.1 c.index-nodes-number.is in
    record { inside = answers_inside c.args.setup.now c.args.nodes.now c.requires.valid c.args.least.now c.requires.least c.in-Some.number.now c.index-nodes-number.result node }

pub nodes-smaller : goal.nodes-smaller
nodes-smaller c =
    let short = order_short c.args.setup.now c.args.nodes.now c.requires.valid c.nodes.order.keys c.nodes.shared c.nodes.invariant c.len.ensures.unique in
    let read = ap length c.as_slice.ensures in
    let more = ap length c.in_ok-push.ensures.ok ∙ length-append c.nodes.shared _ in
    let test = c.nodes-test.true in
    let count = c.len.ensures.len in
    omega (arith, short, read, more, test, count)

pub nodes-preserved : goal.nodes-preserved
nodes-preserved c =
    let here = number_read c.args.setup.now c.args.nodes.now c.nodes.order.keys c.as_slice-in-nodes.result.now c.nodes.shared c.in-Some.number.now c.nodes.invariant c.as_slice-in-nodes.ensures c.in-Some.ensures.key in
    let node = node_read c.args.nodes.now c.in-Some.number.now c.index-nodes-number.result here.1 c.index-nodes-number.is in
    shared_on c.args.setup.now c.args.nodes.now c.requires.valid c.args.least.now c.requires.least c.nodes.order.keys c.renamed_node.new.order.keys c.nodes.shared c.push.new.self c.in-Some.number.now c.index-nodes-number.result c.in_ok-renamed.renamed
    c.nodes.invariant here.0 node c.in_ok-renamed.ensures.like c.in_ok-renamed.ensures.renamed c.in_ok-push.ensures.ok

pub returns-clause-shared : goal.returns-clause-shared
returns-clause-shared c =
    let read = ap length c.as_slice.ensures in
    let test = c.nodes-test.false in
    let count = c.len.ensures.len in
    shared_form c.args.setup.now c.args.nodes.now c.requires.valid c.nodes.order.keys c.nodes.shared c.nodes.invariant c.len.ensures.unique (omega (arith, read, test, count))
