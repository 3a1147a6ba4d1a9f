use Rattle.std.proofs.Common.{◌≡◌, drop}
use Rattle.bddl_model.specs.Play.{numbered_text}
use Rattle.io_edge.proofs.Added.{Added}
use Rattle.game_play.proofs.show.add_list.Given as goal

abbrev pub invariant-loop-number : goal.invariant-loop-number
invariant-loop-number g l = record {
  added : Added (numbered_text l.game 0 l.moves) (numbered_text l.game l.number (drop l.number l.moves)) (g.K.Sink.written l.fn.sink) l.fn.buffer (g.K.Sink.written l.sink) l.buffer;
  counts : g.K.Sink.faults l.fn.sink ≡ g.K.Sink.faults l.sink;
}
