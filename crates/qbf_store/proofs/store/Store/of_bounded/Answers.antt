use Rattle.bddl_model.specs.declared.formula.Quant.TheVariants as quant
use Rattle.bddl_model.specs.Fine.{first_block}
use Rattle.qbf_store.proofs.Originals.{of_originals}
use Rattle.qbf_store.proofs.store.Store.of_bounded.Goals as goal

pub invariant_of-result : goal.invariant_of-result
invariant_of-result c =
    let f = c.args.form.now in
    let rows = c.in_ok-holders_of.field-0.rows.items in
    rw (c.in_ok-copy.ensures, c.new.ensures.empty)
    (of_originals f c.args.most rows (c.original_clause_is_fine.ensures.of_form (first_block quant.All f.prefix) f c.keeps_its_form.ensures) c.in_ok-holders_of.ensures.count (c.in_ok-holders_of.ensures.rows c.args.most))
