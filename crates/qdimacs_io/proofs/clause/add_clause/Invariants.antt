use Rattle.std.proofs.Common.{◌≡◌, drop}
use Rattle.bddl_model.specs.FormulaText.{literal_text}
use Rattle.io_edge.proofs.Added.{Added}
use Rattle.qdimacs_io.proofs.Lines.{ended}
use Rattle.qdimacs_io.proofs.clause.add_clause.Given as goal

abbrev pub invariant-loop-literal : goal.invariant-loop-literal
invariant-loop-literal g l = record {
  added : Added (ended literal_text l.literals) (ended literal_text (drop l.literal-index l.literals)) (g.K.Sink.written l.fn.sink) l.fn.buffer (g.K.Sink.written l.sink) l.buffer;
  counts : g.K.Sink.faults l.fn.sink ≡ g.K.Sink.faults l.sink;
}
