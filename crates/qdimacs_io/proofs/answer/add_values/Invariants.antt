use Rattle.std.proofs.Common.{◌≡◌, drop}
use Rattle.bddl_model.specs.Verdicts.{value_lines}
use Rattle.io_edge.proofs.Added.{Added}
use Rattle.qdimacs_io.proofs.answer.add_values.Given as goal

abbrev pub invariant-values : goal.invariant-values
invariant-values g l = record {
  added : Added (value_lines l.prefix l.values) (value_lines (drop l.i l.prefix) (drop l.i l.values)) (g.K.Sink.written l.fn.sink) l.fn.buffer (g.K.Sink.written l.sink) l.buffer;
  counts : g.K.Sink.faults l.fn.sink ≡ g.K.Sink.faults l.sink;
}
