use Rattle.std.proofs.Common.{◌≡◌, ◌+◌, drop}
use Rattle.std.specs.Prelude.{◌==◌}
use Rattle.std.specs.List.{list_any}
use Rattle.io_edge.proofs.memory_shelf.is_named.Given as goal

-- what is left decides
abbrev pub invariant-loop-call : goal.invariant-loop-call
invariant-loop-call l =
    list_any (λ call. call == l.calls + 1) l.failing ≡ list_any (λ call. call == l.calls + 1) (drop l.call-index l.failing)
