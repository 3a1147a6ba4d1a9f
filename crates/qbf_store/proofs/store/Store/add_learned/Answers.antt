use Rattle.std.proofs.Common.{arith, ◌<◌, Some, sym, ap, subst}
use Rattle.slab.specs.Slab.{Slab}
use Rattle.bddl_model.specs.Fine.{IsFine}
use Rattle.qbf_store.specs.declared.constraint.ConstraintId.TheVariants.{Learned}
use Rattle.qbf_store.specs.declared.constraint.LearnedConstraint.{LearnedConstraint}
use Rattle.qbf_store.specs.Constraints.{Constraints, ChangesAt, learned_count}
use Rattle.qbf_store.specs.Kept.{shown}
use Rattle.qbf_store.proofs.Changes.{view_of, moved, added_at, free_at, one_more, with_constraint}
use Rattle.qbf_store.proofs.Entering.{entered_behind}
use Rattle.qbf_store.proofs.store.Store.add_learned.Goals as goal

pub invariant_of-self-in_err-reserve-2 : goal.invariant_of-self-in_err-reserve-2
invariant_of-self-in_err-reserve-2 c =
    let s = c.self.inside in
    moved (shown s) (view_of s.form s.most c.reserve.new.self) s.holders.rows.items c.reserve-2.new.self.rows.items c.self.invariant
    (ap (λ (l : Slab LearnedConstraint). view_of s.form s.most l) c.reserve.ensures.rest_kept) (omega (arith, c.reserve-2.ensures.count, c.reserve-2.new.self.rows.ok.0, s.holders.rows.ok.0)) c.reserve-2.ensures.rows

pub invariant_of-self-in_err-from_slice : goal.invariant_of-self-in_err-from_slice
invariant_of-self-in_err-from_slice c =
    let s = c.self.inside in
    moved (shown s) (view_of s.form s.most c.reserve.new.self) s.holders.rows.items c.reserve-2.new.self.rows.items c.self.invariant
    (ap (λ (l : Slab LearnedConstraint). view_of s.form s.most l) c.reserve.ensures.rest_kept) (omega (arith, c.reserve-2.ensures.count, c.reserve-2.new.self.rows.ok.0, s.holders.rows.ok.0)) c.reserve-2.ensures.rows

pub invariant_of-self-2 : goal.invariant_of-self-2
invariant_of-self-2 c =
    let s = c.self.inside in
    let more = one_more s.form s.most s.learned c.reserve.new.self c.insert_reserved-number.new.self c.reserve.ensures.rest_kept c.insert_reserved-number.ensures.len in
    let room : learned_count (shown s) < s.most = subst (λ (v : Constraints). learned_count v < v.most) (sym c.self.view_is) c.requires.room in
    let fine : IsFine c.args.kind s.form c.args.literals.now = subst (λ (v : Constraints). IsFine c.args.kind v.form c.args.literals.now) (sym c.self.view_is) c.requires.fine in
    with_constraint (shown s) (view_of s.form s.most c.insert_reserved-number.new.self) s.holders.rows.items c.enter.new.self.rows.items (Learned c.insert_reserved-number.result) (record { kind = c.args.kind; literals = c.args.literals.now })
    c.self.invariant
    (free_at s.form s.most s.learned c.reserve.new.self c.insert_reserved-number.result c.reserve.ensures.rest_kept c.insert_reserved-number.ensures.was_vacant)
    (added_at s.form s.most s.learned c.reserve.new.self c.insert_reserved-number.new.self c.insert_reserved-number.result (record { kind = c.args.kind; literals = c.in_ok-from_slice.field-0 }) c.args.literals.now c.reserve.ensures.rest_kept c.insert_reserved-number.ensures.updates c.in_ok-from_slice.ensures.ok)
    fine room more (omega (arith, c.enter.ensures.count, c.reserve-2.ensures.count, c.enter.new.self.rows.ok.0, s.holders.rows.ok.0))
    (entered_behind s.form.prefix c.prefix-2.result.now s.holders.rows.items c.reserve-2.new.self.rows.items c.enter.new.self.rows.items c.args.literals.now (Learned c.insert_reserved-number.result) c.prefix-2.ensures c.reserve-2.ensures.rows c.enter.ensures.rows)

pub returns-clause-added : goal.returns-clause-added
returns-clause-added c =
    let s = c.self.inside in
    subst (λ (v : Constraints). ChangesAt v (view_of s.form s.most c.insert_reserved-number.new.self) (Learned c.insert_reserved-number.result) (Some (record { kind = c.args.kind; literals = c.args.literals.now }))) c.self.view_is
    (added_at s.form s.most s.learned c.reserve.new.self c.insert_reserved-number.new.self c.insert_reserved-number.result (record { kind = c.args.kind; literals = c.in_ok-from_slice.field-0 }) c.args.literals.now c.reserve.ensures.rest_kept c.insert_reserved-number.ensures.updates c.in_ok-from_slice.ensures.ok)
