use Rattle.std.proofs.Common.{arith, rules, refl, ◌≡◌, ◌+◌, ◌≤◌, ◌∷◌, ◌++◌, [], true, None, sym, ap, ap₂, subst, ◌∙◌}
use Rattle.std.specs.Prelude.{slice_set}
use Rattle.bddl_model.specs.Forms.{has_number, prefix_variables}
use Rattle.qbf_trail.specs.Entries.{Entries, value_in}
use Rattle.qbf_trail.proofs.Values.{few_entries, fewer_entries}
use Rattle.qbf_trail.proofs.Levels.{level_high}
use Rattle.qbf_trail.proofs.Changes.{entry_of, keeps_put}
use Rattle.qbf_trail.proofs.trail.Trail.put.Goals as goal

pub raise-level-requires : goal.raise-level-requires
raise-level-requires c =
    let t = c.self.inside in
    let few = few_entries t.prefix t.entries.items c.self.invariant.entries.bound c.self.invariant.entries.once in
    let high = level_high 0 t.entries.items c.self.invariant.entries.levels in
    let last = c.self.invariant.entries.last in
    omega (arith, c.keeps_its_variables.ensures.few)

pub push_reserved-requires : goal.push_reserved-requires
push_reserved-requires c =
    let t = c.self.inside in
    let bound = subst (λ (s : Entries). has_number (prefix_variables s.prefix) c.args.literal.var.0 ≡ true) (sym c.self.view_is) c.requires.bound in
    let free = subst (λ (s : Entries). value_in s.entries c.args.literal.var.0 ≡ None) (sym c.self.view_is) c.requires.free in
    let fewer = fewer_entries t.prefix t.entries.items c.args.literal.var.0 c.self.invariant.entries.bound c.self.invariant.entries.once bound free in
    omega (arith, c.self.invariant.room, t.entries.ok.0)

pub overflow_cast-len : goal.overflow_cast-len
overflow_cast-len c =
    let t = c.self.inside in
    let few = few_entries t.prefix t.entries.items c.self.invariant.entries.bound c.self.invariant.entries.once in
    let short : c.len.result ≤ 16777216 = omega (arith, c.push_reserved.ensures.len, t.entries.ok.0, c.keeps_its_variables.ensures.few) in
    search rules

pub invariant_of-self : goal.invariant_of-self
invariant_of-self c =
    let t = c.self.inside in
    let bound = subst (λ (s : Entries). has_number (prefix_variables s.prefix) c.args.literal.var.0 ≡ true) (sym c.self.view_is) c.requires.bound in
    let free = subst (λ (s : Entries). value_in s.entries c.args.literal.var.0 ≡ None) (sym c.self.view_is) c.requires.free in
    keeps_put t _ c.args.literal c.args.cause c.self.invariant bound free
    (ap₂ (λ es n. record { prefix = t.prefix; entries = es; level = n }) (c.push_reserved.ensures.items ∙ ap (λ n. t.entries.items ++ entry_of c.args.literal c.args.cause n ∷ []) c.raise-level.ensures) c.raise-level.ensures)
    c.push_reserved.ensures.capacity refl
    (ap (λ n. slice_set t.places.items c.args.literal.var.0 n) (c.len.ensures ∙ c.push_reserved.ensures.len ∙ ap (λ n. n + 1) t.entries.ok.0))
