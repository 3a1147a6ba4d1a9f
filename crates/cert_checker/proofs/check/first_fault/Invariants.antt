use Rattle.std.proofs.Common.{◌≡◌, length, drop}
use Rattle.cert_checker.specs.Benches.{IsBench}
use Rattle.cert_checker.specs.Checking.{check_from}
use Rattle.cert_checker.specs.Places.{IsTable, IsNamedBelow}
use Rattle.cert_checker.proofs.check.first_fault.Given as goal

-- the nodes that are left have the first fault
abbrev pub invariant-loop-at : goal.invariant-loop-at
invariant-loop-at l = record {
  rest : check_from l.setup l.at l.table (drop l.at l.nodes) ≡ check_from l.setup 0 l.initial.table l.nodes;
  len : length l.table ≡ length l.nodes;
  table : IsTable l.setup l.table;
  named : IsNamedBelow l.at l.table;
  bench : IsBench l.setup.game l.bench;
}
