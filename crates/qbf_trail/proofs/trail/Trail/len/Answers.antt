use Rattle.std.proofs.Common.{◌≤◌, arith, rules}
use Rattle.qbf_trail.proofs.Values.{few_entries}
use Rattle.qbf_trail.proofs.trail.Trail.len.Goals as goal

pub overflow_cast-result : goal.overflow_cast-result
overflow_cast-result c =
    let t = c.self.inside in
    let few = few_entries t.prefix t.entries.items c.self.invariant.entries.bound c.self.invariant.entries.once in
    let short : c.len.result ≤ 16777215 = omega (arith, t.entries.ok.0) in
    search rules
