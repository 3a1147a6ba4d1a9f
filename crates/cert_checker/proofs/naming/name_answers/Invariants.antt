use Rattle.std.proofs.Common.{◌≡◌, suc, length, drop}
use Rattle.cert_checker.specs.Benches.{IsBench}
use Rattle.cert_checker.specs.Checking.{with_answers}
use Rattle.cert_checker.specs.Places.{place_at, place_in, IsTable, IsNamedBelow}
use Rattle.cert_checker.proofs.naming.name_answers.Given as goal

-- the answers that are left lead to the same table
abbrev pub invariant-loop-answer : goal.invariant-loop-answer
invariant-loop-answer l = record {
  entries : with_answers l.setup l.node (place_at l.turn l.bench.here.marks) (drop l.answer-index l.answers) l.table ≡ with_answers l.setup l.node (place_at l.turn l.fn.bench.here.marks) l.answers l.initial.table;
  len : length l.table ≡ length l.initial.table;
  table : IsTable l.setup l.table;
  named : IsNamedBelow (suc l.node) l.table;
  here : l.bench.here ≡ l.fn.bench.here;
  place : place_at l.turn l.bench.here.marks ≡ place_in l.setup l.table l.node;
  bench : IsBench l.setup.game l.bench;
}
