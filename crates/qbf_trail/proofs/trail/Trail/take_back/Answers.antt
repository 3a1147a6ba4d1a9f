use Rattle.std.proofs.Common.{arith, refl, sym, ◌∙◌}
use Rattle.qbf_trail.specs.Kept.{shown}
use Rattle.qbf_trail.proofs.Changes.{entry_within, keeps_back, taken_back}
use Rattle.qbf_trail.proofs.trail.Trail.take_back.Goals as goal

pub index_mut-requires : goal.index_mut-requires
index_mut-requires c =
    let t = c.self.inside in
    let within = entry_within t c.pop.new.self.items c.in-Some.entry c.self.invariant c.in-Some.ensures.items in
    omega (arith, within.0, t.values.ok.0)

pub index_mut-requires-in-Some : goal.index_mut-requires-in-Some
index_mut-requires-in-Some c =
    let t = c.self.inside in
    let within = entry_within t c.pop.new.self.items c.in-Some.entry c.self.invariant c.in-Some.ensures.items in
    omega (arith, within.1, t.places.ok.0)

pub invariant_of-self : goal.invariant_of-self
invariant_of-self c =
    let t = c.self.inside in
    keeps_back t _ c.in-Some.entry.literal c.in-Some.entry.cause c.self.invariant
    (taken_back (shown t) c.pop.new.self.items c.in-Some.entry c.lower-self-inside.result c.self.invariant.entries c.in-Some.ensures.items c.lower-self-inside.ensures)
    (omega (arith, c.pop.ensures.capacity)) refl refl

pub returns-in-Some : goal.returns-in-Some
returns-in-Some c =
    let t = c.self.inside in
    (c.in-Some.entry, sym c.self.view_is ∙ taken_back (shown t) c.pop.new.self.items c.in-Some.entry c.lower-self-inside.result c.self.invariant.entries c.in-Some.ensures.items c.lower-self-inside.ensures)
