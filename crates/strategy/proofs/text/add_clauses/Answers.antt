use Rattle.std.proofs.Common.{rules}
use Rattle.bddl_model.specs.Circuit.{circuit_clauses}
use Rattle.io_edge.proofs.Added.{added_more, added_stops}
use Rattle.strategy.proofs.Writing.{clause_next}
use Rattle.strategy.proofs.text.add_clauses.Goals as goal

pub returns-in_err-add_gate_clause-clause-text : goal.returns-in_err-add_gate_clause-clause-text
returns-in_err-add_gate_clause-clause-text g c =
    let next = clause_next (circuit_clauses c.args.dag.now c.args.out) c.loop-number.number _ c.clause_at.ensures in
    added_stops _ _ _ _ next _ _ _ _ _ _ c.loop-number.invariant.added _ c.from_residual.ensures.0 c.in_err-add_gate_clause.ensures.text

pub loop-number-preserved : goal.loop-number-preserved
loop-number-preserved g c =
    let next = clause_next (circuit_clauses c.args.dag.now c.args.out) c.loop-number.number _ c.clause_at.ensures in
    record {
      added = added_more _ _ _ _ next _ _ _ _ _ _ c.loop-number.invariant.added c.in_ok-add_gate_clause.ensures.text;
      counts = search rules;
    }
