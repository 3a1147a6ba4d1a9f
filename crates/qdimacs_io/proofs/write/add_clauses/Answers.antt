use Rattle.std.proofs.Common.{rules}
use Rattle.bddl_model.specs.FormulaText.{clause_text}
use Rattle.io_edge.proofs.Added.{added_more, added_stops}
use Rattle.io_edge.proofs.Added.{flat_map_next}
use Rattle.qdimacs_io.proofs.write.add_clauses.Goals as goal

pub returns-in_err-add_clause-clause-text : goal.returns-in_err-add_clause-clause-text
returns-in_err-add_clause-clause-text g c =
    let next = flat_map_next clause_text c.args.form.now.clauses c.loop-number.number _ _ (rw c.clauses-number-end.ensures at c.loop-number-test.true) c.clause.ensures.literals in
    added_stops _ _ _ _ next _ _ _ _ _ _ c.loop-number.invariant.added _ c.from_residual.ensures.0 c.in_err-add_clause.ensures.text

pub loop-number-preserved : goal.loop-number-preserved
loop-number-preserved g c =
    let next = flat_map_next clause_text c.args.form.now.clauses c.loop-number.number _ _ (rw c.clauses-number-end.ensures at c.loop-number-test.true) c.clause.ensures.literals in
    record {
      added = added_more _ _ _ _ next _ _ _ _ _ _ c.loop-number.invariant.added c.in_ok-add_clause.ensures.text;
      counts = search rules;
    }
