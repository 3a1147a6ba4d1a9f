use Rattle.std.proofs.Common.{◌≡◌, drop}
use Rattle.std.specs.Prelude.{flat_map}
use Rattle.bddl_model.specs.Circuit.{circuit_clauses}
use Rattle.bddl_model.specs.FormulaText.{clause_text}
use Rattle.io_edge.proofs.Added.{Added}
use Rattle.strategy.proofs.text.add_clauses.Given as goal

abbrev pub invariant-loop-number : goal.invariant-loop-number
invariant-loop-number g l = record {
  added : Added (flat_map clause_text (circuit_clauses l.dag l.out)) (flat_map clause_text (drop l.number (circuit_clauses l.dag l.out))) (g.K.Sink.written l.fn.sink) l.fn.buffer (g.K.Sink.written l.sink) l.buffer;
  counts : g.K.Sink.faults l.fn.sink ≡ g.K.Sink.faults l.sink;
}
