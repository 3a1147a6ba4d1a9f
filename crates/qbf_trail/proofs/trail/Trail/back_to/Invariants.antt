use Rattle.std.proofs.Common.{◌≡◌, ◌≤◌, length}
use Rattle.qbf_trail.specs.Entries.{up_to}
use Rattle.qbf_trail.proofs.trail.Trail.back_to.Given as goal

abbrev pub invariant-loop-self : goal.invariant-loop-self
invariant-loop-self l = record {
  prefix : l.self.prefix ≡ l.initial.self.prefix;
  entries : up_to l.level.0 l.self.entries ≡ up_to l.level.0 l.initial.self.entries;
  enough : l.level.0 ≤ l.self.level;
}

abbrev pub decreases-loop-self : goal.decreases-loop-self
decreases-loop-self l = length l.self.entries
