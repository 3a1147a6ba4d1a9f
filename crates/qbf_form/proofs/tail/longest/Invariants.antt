use Rattle.std.proofs.Common.{◌≡◌, ◌≤◌, drop}
use Rattle.qbf_form.specs.TailMarks.{has_mark, longest_from}
use Rattle.qbf_form.proofs.tail.longest.Given as goal

-- what is left gives the length
abbrev pub invariant-loop-bound : goal.invariant-loop-bound
invariant-loop-bound l = record {
  short : l.length ≤ l.bound-index;
  length : longest_from (has_mark l.units) (has_mark l.gates) l.length (drop l.bound-index l.bounds) ≡ longest_from (has_mark l.units) (has_mark l.gates) 0 l.bounds;
}
