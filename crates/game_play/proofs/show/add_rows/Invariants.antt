use Rattle.std.proofs.Common.{◌≡◌, ◌-◌, ◌*◌, length}
use Rattle.bddl_model.specs.Play.{rows_text}
use Rattle.io_edge.proofs.Added.{Added}
use Rattle.game_play.proofs.show.add_rows.Given as goal

abbrev pub invariant-loop-row : goal.invariant-loop-row
invariant-loop-row g l = record {
  added : Added (rows_text l.width l.height l.marks) (rows_text l.width (l.height - l._row) l.left) (g.K.Sink.written l.fn.sink) l.fn.buffer (g.K.Sink.written l.sink) l.buffer;
  size : length l.left ≡ (l.height - l._row) * l.width;
  counts : g.K.Sink.faults l.fn.sink ≡ g.K.Sink.faults l.sink;
}
