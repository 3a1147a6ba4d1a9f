use Rattle.std.proofs.Common.{◌++◌, refl, ap₂, sym}
use Rattle.std.specs.Prelude.{flat_map}
use Rattle.bddl_model.specs.FormulaText.{head_text, clause_text}
use Rattle.io_edge.proofs.Added.{added_nothing, added_more, added_stops, added_last}
use Rattle.qdimacs_io.proofs.write.add_form.Goals as goal

pub returns-in_err-add_head-clause-text : goal.returns-in_err-add_head-clause-text
returns-in_err-add_head-clause-text g c =
    let next = ap₂ (λ prefix clauses. head_text prefix clauses ++ flat_map clause_text c.args.form.now.clauses) (sym c.prefix.ensures) (sym c.clauses.ensures) in
    added_stops _ _ _ _ next _ _ _ _ _ _ (added_nothing _ _ _) _ c.from_residual.ensures.0 c.in_err-add_head.ensures.text

pub returns-clause-text : goal.returns-clause-text
returns-clause-text g c =
    let next = ap₂ (λ prefix clauses. head_text prefix clauses ++ flat_map clause_text c.args.form.now.clauses) (sym c.prefix.ensures) (sym c.clauses.ensures) in
    added_last _ _ _ refl _ _ _ _ _ _ _ (added_more _ _ _ _ next _ _ _ _ _ _ (added_nothing _ _ _) c.in_ok-add_head.ensures.text) c.add_clauses.ensures.text
