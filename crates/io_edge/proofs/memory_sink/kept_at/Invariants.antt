use Rattle.std.proofs.Common.{◌≡◌, ◌+◌, drop}
use Rattle.io_edge.specs.Fakes.{kept_of}
use Rattle.io_edge.proofs.memory_sink.kept_at.Given as goal

-- what is left decides
abbrev pub invariant-loop-call : goal.invariant-loop-call
invariant-loop-call l =
    kept_of l.failing (l.calls + 1) ≡ kept_of (drop l.call-index l.failing) (l.calls + 1)
