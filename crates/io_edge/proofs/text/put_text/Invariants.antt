use Rattle.std.proofs.Common.{◌≡◌, ◌≤◌, ◌-◌, length, take, Ok}
use Rattle.io_edge.specs.Puts.{Puts}
use Rattle.io_edge.proofs.text.put_text.Given as goal

-- the text so far was put
abbrev pub invariant-pieces : goal.invariant-pieces
invariant-pieces g l = record {
  within : l.at ≤ length l.text;
  told : Puts (take l.at l.text) (g.K.Sink.written l.fn.sink) (g.K.Sink.written l.sink) (Ok tt);
  counts : g.K.Sink.faults l.fn.sink ≡ g.K.Sink.faults l.sink;
}

abbrev pub decreases-pieces : goal.decreases-pieces
decreases-pieces g l = length l.text - l.at
