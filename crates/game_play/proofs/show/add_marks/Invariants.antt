use Rattle.std.proofs.Common.{◌≡◌, drop, map}
use Rattle.bddl_model.specs.Play.{mark_byte}
use Rattle.io_edge.proofs.Added.{Added}
use Rattle.game_play.proofs.show.add_marks.Given as goal

abbrev pub invariant-loop-mark : goal.invariant-loop-mark
invariant-loop-mark g l = record {
  added : Added (map mark_byte l.marks) (map mark_byte (drop l.mark-index l.marks)) (g.K.Sink.written l.fn.sink) l.fn.buffer (g.K.Sink.written l.sink) l.buffer;
  counts : g.K.Sink.faults l.fn.sink ≡ g.K.Sink.faults l.sink;
}
