use Rattle.std.proofs.Common.{◌≡◌, ◌≤◌, ◌<◌, ◌-◌, ◌+◌, ◌%◌, length, take, Ok}
use Rattle.arrayvec.specs.ArrayVec.{array_vec_len}
use Rattle.io_edge.specs.Puts.{Adds}
use Rattle.io_edge.proofs.piece_buffer.PieceBuffer.add.Given as goal

-- the text so far was taken in
abbrev pub invariant-runs : goal.invariant-runs
invariant-runs g l = record {
  within : l.at ≤ length l.text;
  room : array_vec_len l.self-inside.held < 4096;
  added : Adds (take l.at l.text) (g.K.Sink.written l.fn.sink) l.fn.self (g.K.Sink.written l.sink) l.self-inside.held.items (Ok tt);
  rest : array_vec_len l.self-inside.held ≡ (length l.fn.self + l.at) % 4096;
  counts : g.K.Sink.faults l.fn.sink ≡ g.K.Sink.faults l.sink;
}

abbrev pub decreases-runs : goal.decreases-runs
decreases-runs g l = length l.text - l.at
