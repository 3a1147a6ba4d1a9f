use Rattle.std.proofs.Common.{◌≤◌, List, length, subst, arith}
use Rattle.std.proofs.lemmas.List.{length-map}
use Rattle.bddl_model.specs.declared.formula.Bound.{Bound}
use Rattle.bddl_model.specs.Forms.{greatest_variables, prefix_variables}
use Rattle.qbf_form.proofs.Variables.{few_in_range}
use Rattle.qbf_form.proofs.prefix.Prefix.keeps_its_variables.Goals as goal

pub returns-clause-few : goal.returns-clause-few
returns-clause-few c =
    let bounds = c.self.inside.bounds.items in
    let few = few_in_range greatest_variables (prefix_variables bounds) c.self.invariant.in_range c.self.invariant.apart in
    let many = length-map bounds (λ (b : Bound). b.var.0) in
    subst (λ (p : List Bound). length p ≤ greatest_variables) c.self.view_is (omega arith)
