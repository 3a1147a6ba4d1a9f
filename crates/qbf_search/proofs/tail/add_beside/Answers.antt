use Rattle.std.proofs.Common.{arith}
use Rattle.std.proofs.lemmas.List.{length-map}
use Rattle.bddl_model.specs.declared.formula.Bound.{Bound}
use Rattle.bddl_model.specs.Forms.{prefix_variables}
use Rattle.qbf_search.proofs.TailRows.{place_at_most}
use Rattle.qbf_search.proofs.tail.add_beside.Goals as goal

pub add_to_row-requires : goal.add_to_row-requires
add_to_row-requires c =
    let most = place_at_most 0 (prefix_variables c.args.prefix.now) c.args.other.var.0 in
    let many = length-map c.args.prefix.now (λ (b : Bound). b.var.0) in
    let is = c.place-place.ensures in
    omega arith
