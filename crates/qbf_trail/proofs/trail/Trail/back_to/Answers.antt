use Rattle.std.proofs.Common.{arith, ◌≡◌, ◌≤◌, sym, ap, ap₂, subst, ◌∙◌}
use Rattle.qbf_trail.specs.Entries.{Entries, AreEntries, up_to, last_level}
use Rattle.qbf_trail.proofs.Levels.{up_to_all}
use Rattle.qbf_trail.proofs.trail.Trail.back_to.Goals as goal

pub returns : goal.returns
returns c =
    let s : Entries = c.loop-self.self in
    let level = c.args.level.0 in
    let entries = subst AreEntries c.self.view_is c.self.invariant.entries in
    let reached : s.level ≡ level = (let same = ap (λ (t : Entries). t.level) c.self.view_is in let enough = c.loop-self.invariant.enough in let done = c.loop-self-test.false in omega arith) in
    let low : last_level 0 s.entries ≤ level = (let last = entries.last in omega arith) in
    ap₂ (λ es n. record { prefix = s.prefix; entries = es; level = n }) (sym (up_to_all level 0 s.entries entries.levels low) ∙ c.loop-self.invariant.entries) reached
    ∙ ap (λ p. record { prefix = p; entries = up_to level c.args.self.now.entries; level = level }) c.loop-self.invariant.prefix
