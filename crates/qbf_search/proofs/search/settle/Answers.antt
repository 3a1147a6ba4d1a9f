use Rattle.std.proofs.Common.{◌≡◌, ◌≢◌, ℕ, ◌≤◌, ◌<◌, ◌+◌, ◌-◌, ◌⊎◌, List, Bool, true, false, length, vec_len, refl, sym, ap, subst, ◌∙◌, arith, eqb-true}
use Rattle.std.proofs.lemmas.Bool.{eqb-false}
use Rattle.std.specs.Prelude.{nat_lt}
use Rattle.std.proofs.lemmas.List.{nil_from_length}
use Rattle.bddl_model.specs.declared.formula.Bound.{Bound}
use Rattle.bddl_model.specs.StepCount.{StepCount}
use Rattle.bddl_model.specs.TrailDigits.{steps_paid}
use Rattle.bddl_model.specs.Bounds.{bound}
use Rattle.bddl_model.specs.Truth.{clauses_true}
use Rattle.qbf_search.specs.Standing.{Stands, bound_at, decides, is_open, digits_of}
use Rattle.qbf_search.specs.Values.{assignment}
use Rattle.qbf_search.proofs.Standing.{none_stand, fewer_stand, value_kept, left_settles}
use Rattle.qbf_search.proofs.Paid.{put_paid, closed_paid, below_bound}
use Rattle.qbf_search.proofs.search.settle.Goals as goal

pub search-init : goal.search-init
search-init c = record {
  stands = subst (λ (ds : List Bool). Stands c.args.form.now c.args.tail.now.before ds (assignment c.args.values.now.items)) (sym (nil_from_length c.args.decisions.items (omega arith))) (none_stand c.args.form.now c.args.tail.now.before (assignment c.args.values.now.items) c.requires.none);
  room = c.requires.room;
  capacity = c.requires.capacity;
  paid = omega arith;
  never_fewer = omega arith;
  budget = refl;
}

pub returns-then-not-tick-clause-used : goal.returns-then-not-tick-clause-used
returns-then-not-tick-clause-used c =
    subst (λ (s : StepCount). s.used < c.args.steps.now.used + bound c.args.form.now) (sym (c.if-not-tick.ensures.unchanged refl))
    (below_bound c.args.form.now c.args.tail.now.before c.args.steps.now.used c.search.steps.used c.search.decisions.items c.requires.tail.start c.search.invariant.stands.within c.search.invariant.paid)

pub returns-then-is_empty-clause-used : goal.returns-then-is_empty-clause-used
returns-then-is_empty-clause-used c =
    below_bound c.args.form.now c.args.tail.now.before c.args.steps.now.used c.search.steps.used c.search.decisions.items c.requires.tail.start c.search.invariant.stands.within c.search.invariant.paid

pub returns-then-not-tick-2-clause-used : goal.returns-then-not-tick-2-clause-used
returns-then-not-tick-2-clause-used c =
    subst (λ (s : StepCount). s.used < c.args.steps.now.used + bound c.args.form.now) (sym (c.if-not-tick-2.ensures.unchanged refl))
    (below_bound c.args.form.now c.args.tail.now.before c.args.steps.now.used c.search.steps.used c.search.decisions.items c.requires.tail.start c.search.invariant.stands.within c.search.invariant.paid)

pub search-preserved-then-len-prefix : goal.search-preserved-then-len-prefix
search-preserved-then-len-prefix c =
    let counted = c.if-not-tick.ensures.counted refl in
    let used : c.tick.new.self.used ≡ c.search.steps.used + 1 = ap (λ (s : StepCount). s.used) counted in
    let budget : c.tick.new.self.budget ≡ c.search.steps.budget = ap (λ (s : StepCount). s.budget) counted in
    record {
      stands = c.put.ensures.stands;
      room = λ v h. omega (arith, c.search.invariant.room v h, c.put.ensures.len);
      capacity = omega (arith, c.search.invariant.capacity, c.put.ensures.capacity);
      paid =
          subst (λ (n : ℕ). n ≤ c.args.steps.now.used + steps_paid c.args.tail.now.before (length c.args.form.now.prefix) (digits_of c.put.new.decisions.items) (length c.put.new.decisions.items)) (sym used)
          (subst (λ (ds : List Bool). c.search.steps.used + 1 ≤ c.args.steps.now.used + steps_paid c.args.tail.now.before (length c.args.form.now.prefix) (digits_of ds) (length ds)) (sym c.put.ensures.decisions)
          (put_paid c.args.tail.now.before (length c.args.form.now.prefix) c.args.steps.now.used c.search.steps.used c.search.decisions.items (nat_lt (vec_len c.search.decisions) c.args.tail.now.before) c.search.invariant.paid));
      never_fewer = omega (arith, c.search.invariant.never_fewer, used);
      budget = budget ∙ c.search.invariant.budget;
    }

-- what was left, by the form's own prefix
left_of_form : (p prefix : List Bound) (decisions : List Bool) (kept n : ℕ) (b : Bool) → p ≡ prefix → n ≡ length decisions
    → ((place : ℕ) → kept ≤ place → place < n → (is_open decisions place ≡ false) ⊎ (decides (bound_at p place).quant b ≡ true))
    → (place : ℕ) → kept ≤ place → place < length decisions → (is_open decisions place ≡ false) ⊎ (decides (bound_at prefix place).quant b ≡ true)
left_of_form p prefix decisions kept n b same many left place low lt =
    subst (λ (q : List Bound). (is_open decisions place ≡ false) ⊎ (decides (bound_at q place).quant b ≡ true)) same (left place low (omega arith))

pub returns-then-is_empty-clause-settled : goal.returns-then-is_empty-clause-settled
returns-then-is_empty-clause-settled c =
    let none : vec_len c.leave.new.decisions ≡ 0 = eqb-true (vec_len c.leave.new.decisions) 0 (sym c.if-is_empty.ensures) in
    let prefix : c.as_slice-prefix.result.now ≡ c.args.form.now.prefix = c.as_slice-prefix.ensures ∙ c.prefix.ensures in
    let many : length c.as_slice-prefix.result.now ≡ length c.args.form.now.prefix = ap length prefix in
    left_settles c.args.form.now c.args.tail.now.before c.search.decisions.items (assignment c.search.values.items) c.clauses_hold-value.result c.search.invariant.stands
    (left_of_form c.as_slice-prefix.result.now c.args.form.now.prefix c.search.decisions.items 0 (vec_len c.search.decisions) c.clauses_hold-value.result prefix c.search.decisions.ok.0
    (λ place low lt. c.leave.ensures.left place (omega arith) lt))
    (omega arith)
    (sym (c.clauses_hold-value.ensures ∙ ap (λ xs. clauses_true c.args.form.now.clauses (assignment xs)) c.deref.ensures.value))

pub flip-requires-clause-tried : goal.flip-requires-clause-tried
flip-requires-clause-tried c =
    let some : vec_len c.leave.new.decisions ≢ 0 = eqb-false (vec_len c.leave.new.decisions) 0 (sym c.if-is_empty.ensures) in
    let prefix : c.as_slice-prefix.result.now ≡ c.args.form.now.prefix = c.as_slice-prefix.ensures ∙ c.prefix.ensures in
    let many : length c.as_slice-prefix.result.now ≡ length c.args.form.now.prefix = ap length prefix in
    let pos : 0 < vec_len c.leave.new.decisions = omega (arith, some) in
    ap (decides (bound_at c.args.form.now.prefix (vec_len c.leave.new.decisions - 1)).quant)
    (value_kept c.args.form.now c.args.tail.now.before c.search.decisions.items (assignment c.search.values.items) c.clauses_hold-value.result (vec_len c.leave.new.decisions) c.search.invariant.stands
    (left_of_form c.as_slice-prefix.result.now c.args.form.now.prefix c.search.decisions.items (vec_len c.leave.new.decisions) (vec_len c.search.decisions) c.clauses_hold-value.result prefix c.search.decisions.ok.0 c.leave.ensures.left)
    (omega arith)
    (sym (c.clauses_hold-value.ensures ∙ ap (λ xs. clauses_true c.args.form.now.clauses (assignment xs)) c.deref.ensures.value))
    (vec_len c.leave.new.decisions) (omega arith))
    ∙ subst (λ (p : List Bound). decides (bound_at p (vec_len c.leave.new.decisions - 1)).quant c.clauses_hold-value.result ≡ false) prefix (c.leave.ensures.undecided pos)

pub flip-requires-clause-stands : goal.flip-requires-clause-stands
flip-requires-clause-stands c =
    subst (λ (ds : List Bool). Stands c.args.form.now c.args.tail.now.before ds (assignment c.search.values.items)) (sym c.leave.ensures.front)
    (fewer_stand c.args.form.now c.args.tail.now.before c.search.decisions.items (assignment c.search.values.items) (vec_len c.leave.new.decisions) (omega (arith, c.leave.ensures.shorter, c.search.decisions.ok.0)) c.search.invariant.stands)

pub search-preserved : goal.search-preserved
search-preserved c =
    let counted = c.if-not-tick-2.ensures.counted refl in
    let used : c.tick-else-len-prefix.new.self.used ≡ c.search.steps.used + 1 = ap (λ (s : StepCount). s.used) counted in
    let budget : c.tick-else-len-prefix.new.self.budget ≡ c.search.steps.budget = ap (λ (s : StepCount). s.budget) counted in
    let some : vec_len c.leave.new.decisions ≢ 0 = eqb-false (vec_len c.leave.new.decisions) 0 (sym c.if-is_empty.ensures) in
    let pos : 0 < vec_len c.leave.new.decisions = omega (arith, some) in
    record {
      stands = c.flip.ensures.stands;
      room = λ v h. omega (arith, c.search.invariant.room v h, c.flip.ensures.len);
      capacity = omega (arith, c.search.invariant.capacity, c.flip.ensures.capacity, c.leave.ensures.capacity);
      paid =
          subst (λ (n : ℕ). n ≤ c.args.steps.now.used + steps_paid c.args.tail.now.before (length c.args.form.now.prefix) (digits_of c.flip.new.decisions.items) (length c.flip.new.decisions.items)) (sym used)
          (closed_paid c.args.form.now c.args.tail.now.before c.args.steps.now.used c.search.steps.used (vec_len c.leave.new.decisions) c.search.decisions.items c.leave.new.decisions.items c.flip.new.decisions.items (assignment c.search.values.items)
          c.search.invariant.stands pos (omega (arith, c.leave.ensures.shorter, c.search.decisions.ok.0)) c.leave.ensures.front (c.leave.ensures.last pos) c.flip.ensures.decisions c.search.invariant.paid);
      never_fewer = omega (arith, c.search.invariant.never_fewer, used);
      budget = budget ∙ c.search.invariant.budget;
    }
