use Rattle.std.proofs.Common.{◌≡◌, drop}
use Rattle.std.specs.Prelude.{flat_map}
use Rattle.io_edge.proofs.Added.{Added}
use Rattle.cert_text.specs.Writing.{spaced_answer}
use Rattle.cert_text.proofs.write.add_answers.Given as goal

abbrev pub invariant-loop-answer : goal.invariant-loop-answer
invariant-loop-answer g l = record {
  added : Added (flat_map spaced_answer l.answers) (flat_map spaced_answer (drop l.answer-index l.answers)) (g.K.Sink.written l.fn.sink) l.fn.buffer (g.K.Sink.written l.sink) l.buffer;
  counts : g.K.Sink.faults l.fn.sink ≡ g.K.Sink.faults l.sink;
}
