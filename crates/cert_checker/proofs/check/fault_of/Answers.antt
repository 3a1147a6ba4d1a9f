use Rattle.std.proofs.Common.{◌≡◌, length, replicate, rules}
use Rattle.cert_checker.specs.declared.known.Known.TheVariants.{Unnamed}
use Rattle.cert_checker.proofs.Exact.{found_fault}
use Rattle.cert_checker.proofs.Order.{linked_order}
use Rattle.cert_checker.proofs.check.fault_of.Goals as goal

pub first_fault-requires-clause-order : goal.first_fault-requires-clause-order
first_fault-requires-clause-order c = linked_order c.args.nodes.now c.requires

pub returns : goal.returns
returns c =
    let h = c.in_ok-table.ensures.items_if_clones_equal in
    let fresh : c.deref_mut.result.now ≡ replicate (length c.args.nodes.now) Unnamed = search rules in
    found_fault c.args.setup.now c.args.nodes.now c.deref_mut.result.now c.first_fault.result fresh c.requires c.first_fault.ensures
