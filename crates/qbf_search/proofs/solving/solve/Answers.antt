use Rattle.std.proofs.Common.{Bool, true, false, List, ap, subst, ◌∙◌}
use Rattle.bddl_model.specs.declared.formula.Quant.TheVariants.{Exists, All}
use Rattle.bddl_model.specs.declared.formula.Bound.{Bound}
use Rattle.bddl_model.specs.Fine.{first_block}
use Rattle.qbf_search.specs.Standing.{Settles}
use Rattle.qbf_search.specs.Values.{assignment}
use Rattle.qbf_search.proofs.FirstValues.{first_values, settled_value}
use Rattle.qbf_search.proofs.solving.solve.Goals as goal

pub returns-in-Some-true-clause-yes : goal.returns-in-Some-true-clause-yes
returns-in-Some-true-clause-yes g c =
    let a = assignment c.settle.new.values.items in
    let p = c.as_slice-prefix.result.now in
    settled_value c.args.form.now Exists a true c.in_ok-first_values-in-Some-true.field-0.items
    (subst (λ (b : Bool). Settles c.args.form.now a b) c.in-Some-true.field-0-test c.in-Some-true.ensures.settled)
    (c.in_ok-first_values-in-Some-true.ensures
    ∙ ap (λ (xs : List Bool). first_values (first_block Exists p) p (assignment xs)) c.deref.ensures.value
    ∙ ap (λ (bs : List Bound). first_values (first_block Exists bs) bs a) (c.as_slice-prefix.ensures ∙ c.prefix-3.ensures))

pub returns-in-Some-false-clause-no : goal.returns-in-Some-false-clause-no
returns-in-Some-false-clause-no g c =
    let a = assignment c.settle.new.values.items in
    let p = c.as_slice-prefix.result.now in
    settled_value c.args.form.now All a false c.in_ok-first_values-in-Some-false.field-0.items
    (subst (λ (b : Bool). Settles c.args.form.now a b) c.in-Some-false.field-0-test c.in-Some-false.ensures.settled)
    (c.in_ok-first_values-in-Some-false.ensures
    ∙ ap (λ (xs : List Bool). first_values (first_block All p) p (assignment xs)) c.deref-in-Some-false.ensures.value
    ∙ ap (λ (bs : List Bound). first_values (first_block All bs) bs a) (c.as_slice-prefix.ensures ∙ c.prefix-3.ensures))
