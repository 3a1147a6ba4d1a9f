use Rattle.std.proofs.Common.{◌≡◌, length}
use Rattle.io_edge.proofs.Added.{Added}
use Rattle.qdimacs_io.proofs.Blocks.{blocks_text}
use Rattle.qdimacs_io.proofs.head.add_blocks.Given as goal

abbrev pub invariant-loop-rest : goal.invariant-loop-rest
invariant-loop-rest g l = record {
  added : Added (blocks_text l.fn.prefix) (blocks_text l.rest) (g.K.Sink.written l.fn.sink) l.fn.buffer (g.K.Sink.written l.sink) l.buffer;
  counts : g.K.Sink.faults l.fn.sink ≡ g.K.Sink.faults l.sink;
}

abbrev pub decreases-loop-rest : goal.decreases-loop-rest
decreases-loop-rest g l = length l.rest
