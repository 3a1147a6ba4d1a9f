use Rattle.std.proofs.Common.{◌+◌, ◌<◌, ◌++◌, List, length, ap, ◌∙◌, arith}
use Rattle.std.proofs.lemmas.List.{length-map}
use Rattle.bddl_model.specs.declared.formula.Bound.{Bound}
use Rattle.bddl_model.specs.declared.formula.Lit.{Lit}
use Rattle.bddl_model.specs.Forms.{prefix_variables}
use Rattle.bddl_laws.specs.FollowingValues.{implied_by}
use Rattle.qbf_search.specs.Tails.{row, variables_before, variable_at}
use Rattle.qbf_search.proofs.TailRows.{two_added}
use Rattle.qbf_search.proofs.tail.add_clause.Goals as goal

pub returns-in_ok-add_beside-2-clause-rows : goal.returns-in_ok-add_beside-2-clause-rows
returns-in_ok-add_beside-2-clause-rows c = λ i lt.
    let f = c.args.form.now in
    let p = c.args.before + i in
    let within : p < length (prefix_variables f.prefix) = (let many = length-map f.prefix (λ (b : Bound). b.var.0) in omega arith) in
    two_added (prefix_variables f.prefix) p c.clause.result.now _ _ (row c.args.rows.now i) (row c.add_beside.new.rows i) (row c.add_beside-in-len2.new.rows i) c.keeps_its_form.ensures.apart within c.clause.ensures.fits.0 c.in-len2.len_at_least c.in-len2.len_below
    (rw c.prefix.ensures at (c.in_ok-add_beside.ensures.rows i)) (rw c.prefix-in-len2.ensures at (c.in_ok-add_beside-2.ensures.rows i))
    ∙ ap (λ (ls : List Lit). row c.args.rows.now i ++ implied_by (variables_before f p) (variable_at f p) ls) c.clause.ensures.literals
