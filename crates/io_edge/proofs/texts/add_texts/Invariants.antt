use Rattle.std.proofs.Common.{◌≡◌, drop}
use Rattle.std.specs.Prelude.{flat_map}
use Rattle.io_edge.proofs.Added.{Added}
use Rattle.io_edge.proofs.texts.add_texts.Given as goal

abbrev pub invariant-loop-text : goal.invariant-loop-text
invariant-loop-text g l = record {
  added : Added (flat_map (λ text. text.now) l.texts) (flat_map (λ text. text.now) (drop l.text-index l.texts)) (g.K.Sink.written l.fn.sink) l.fn.buffer (g.K.Sink.written l.sink) l.buffer;
  counts : g.K.Sink.faults l.fn.sink ≡ g.K.Sink.faults l.sink;
}
