use Rattle.std.proofs.Common.{◌≡◌, ◌++◌, drop}
use Rattle.std.specs.Prelude.{codes}
use Rattle.bddl_model.specs.FormulaText.{letter_of}
use Rattle.io_edge.proofs.Added.{Added}
use Rattle.qdimacs_io.proofs.Lines.{ended, number_of}
use Rattle.qdimacs_io.proofs.head.add_block.Given as goal

abbrev pub invariant-loop-bound : goal.invariant-loop-bound
invariant-loop-bound g l = record {
  added : Added ((letter_of l.fn.quant ++ codes " ") ++ ended number_of l.block) (ended number_of (drop l.bound-index l.block)) (g.K.Sink.written l.fn.sink) l.fn.buffer (g.K.Sink.written l.sink) l.buffer;
  counts : g.K.Sink.faults l.fn.sink ≡ g.K.Sink.faults l.sink;
}
