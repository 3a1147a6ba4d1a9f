use Rattle.std.proofs.Common.{arith, None, sym, ap, subst, ◌∙◌}
use Rattle.qbf_store.specs.declared.constraint.ConstraintId.{ConstraintId}
use Rattle.qbf_store.specs.declared.constraint.ConstraintId.TheVariants.{Learned}
use Rattle.qbf_store.specs.Constraints.{Constraint, Constraints, ChangesAt}
use Rattle.qbf_store.specs.Kept.{seen, shown}
use Rattle.qbf_store.proofs.Entering.{left_behind}
use Rattle.qbf_store.proofs.Changes.{view_of, seen_at, changes, one_less, fine_fits, without_constraint}
use Rattle.qbf_store.proofs.store.Store.forget.Goals as goal

pub leave-requires-clause-fits : goal.leave-requires-clause-fits
leave-requires-clause-fits c =
    let s = c.self.inside in
    let stored = c.index.result.now in
    let live = seen_at s.learned.slots c.in-Learned.number ∙ ap seen c.index.ensures in
    rw (c.prefix.ensures, c.as_slice-literals.ensures) (fine_fits stored.kind s.form stored.literals.items (c.self.invariant.fine (Learned c.in-Learned.number) (record { kind = stored.kind; literals = stored.literals.items }) live))

pub invariant_of-self : goal.invariant_of-self
invariant_of-self c =
    let s = c.self.inside in
    let stored = c.index.result.now in
    let now : Constraint = record { kind = stored.kind; literals = stored.literals.items } in
    let live = seen_at s.learned.slots c.in-Learned.number ∙ ap seen c.index.ensures in
    without_constraint (shown s) (view_of s.form s.most c.remove.new.learned) s.holders.rows.items c.leave.new.self.rows.items (Learned c.in-Learned.number) now c.self.invariant live
    (changes s.form s.most s.learned c.remove.new.learned c.in-Learned.number None c.remove.ensures.updates) (one_less s.form s.most s.learned c.remove.new.learned c.remove.ensures.count)
    (omega (arith, c.leave.ensures.count, c.leave.new.self.rows.ok.0, s.holders.rows.ok.0))
    (left_behind s.form.prefix c.prefix.result.now s.holders.rows.items c.leave.new.self.rows.items stored.literals.items c.as_slice-literals.result.now (Learned c.in-Learned.number) c.prefix.ensures c.as_slice-literals.ensures c.leave.ensures.rows)

pub returns-in-Learned-clause-forgotten : goal.returns-in-Learned-clause-forgotten
returns-in-Learned-clause-forgotten c =
    let s = c.self.inside in
    subst (λ (v : Constraints). ChangesAt v (view_of s.form s.most c.remove.new.learned) c.args.id None) c.self.view_is
    (subst (λ (i : ConstraintId). ChangesAt (shown s) (view_of s.form s.most c.remove.new.learned) i None) (sym c.in-Learned.is) (changes s.form s.most s.learned c.remove.new.learned c.in-Learned.number None c.remove.ensures.updates))
