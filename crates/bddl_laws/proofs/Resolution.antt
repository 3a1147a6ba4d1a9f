-- A resolvent survives where both clauses do, and so it is fine.
use Rattle.std.proofs.Common.{◌≡◌, ℕ, Bool, true, false, not, ◌&&◌, ◌||◌, List, [], ◌∷◌, filter, if◌then◌else◌, ◌⊎◌, inl, inr, ⊎_elim, refl, sym, ap, ◌∙◌, subst, eqb-true}
use Rattle.std.specs.Prelude.{◌==◌}
use Rattle.std.specs.Bool.{beq}
use Rattle.std.proofs.lemmas.Bool.{or_cases, or_left, or_right, and_parts, false≢true}
use Rattle.std.proofs.lemmas.List.Folds.{list_any-append}
use Rattle.bddl_model.specs.declared.formula.Bound.{Bound}
use Rattle.bddl_model.specs.declared.formula.Lit.{Lit}
use Rattle.bddl_model.specs.Truth.{Assignment, literal_true, clause_true}
use Rattle.bddl_model.specs.Forms.{prefix_variables, AllApart, has_literal}
use Rattle.bddl_model.specs.Fine.{IsFineClause}
use Rattle.bddl_model.specs.Resolution.{NoOpposites, without, joined, resolvent, OneSign}
use Rattle.bddl_laws.proofs.Literals.{sign_first, sign_rest}
use Rattle.bddl_laws.proofs.Survival.{Survives, survives_from_fine, fine_from_survives}
use Rattle.bddl_laws.proofs.Resolvents.{resolvent_fits_prefix}

-- ---- joined clauses

pub true_at : (a : Assignment) (c : List Lit) (l : Lit) → has_literal c l ≡ true → literal_true a l ≡ true → clause_true a c ≡ true
true_at a [] l h t = absurd (false≢true h)
true_at a (x ∷ c) l h t = ⊎_elim (λ e. or_left _ _ (let p = and_parts _ _ e in same (eqb-true l.var.0 x.var.0 p.0) l.negated x.negated p.1 t)) (λ r. or_right _ _ (true_at a c l r t)) (or_cases (l.var.0 == x.var.0 && beq l.negated x.negated) (has_literal c l) h)
  where
    same : l.var.0 ≡ x.var.0 → (m n : Bool) → beq m n ≡ true → (if m then not (a l.var.0) else a l.var.0) ≡ true → (if n then not (a x.var.0) else a x.var.0) ≡ true
    same e true true s t = subst (λ v. not (a v) ≡ true) e t
    same e true false s t = absurd (false≢true s)
    same e false true s t = absurd (false≢true s)
    same e false false s t = subst (λ v. a v ≡ true) e t

-- a true clause has a true literal that passes the test, or one that doesn't
kept_or_dropped : (a : Assignment) (test : Lit → Bool) (c : List Lit) → clause_true a c ≡ true → (clause_true a (filter test c) ≡ true) ⊎ (clause_true a (filter (λ l. not (test l)) c) ≡ true)
kept_or_dropped a test [] h = absurd (false≢true h)
kept_or_dropped a test (l ∷ c) h = at (test l) (or_cases (literal_true a l) (clause_true a c) h) (λ r. kept_or_dropped a test c r)
  where
    at : (t : Bool) → (literal_true a l ≡ true) ⊎ (clause_true a c ≡ true) → (clause_true a c ≡ true → (clause_true a (filter test c) ≡ true) ⊎ (clause_true a (filter (λ l. not (test l)) c) ≡ true)) → (clause_true a (if t then (l ∷ filter test c) else filter test c) ≡ true) ⊎ (clause_true a (if not t then (l ∷ filter (λ l. not (test l)) c) else filter (λ l. not (test l)) c) ≡ true)
    at true (inl e) next = inl (or_left _ _ e)
    at false (inl e) next = inr (or_left _ _ e)
    at true (inr r) next = ⊎_elim (λ i. inl (or_right _ _ i)) (λ i. inr i) (next r)
    at false (inr r) next = ⊎_elim (λ i. inl i) (λ i. inr (or_right _ _ i)) (next r)

-- a true literal that was dropped stands in the other clause too
dropped_true : (a : Assignment) (left c : List Lit) → clause_true a (filter (λ l. not (not (has_literal left l))) c) ≡ true → clause_true a left ≡ true
dropped_true a left [] h = absurd (false≢true h)
dropped_true a left (l ∷ c) h = at (has_literal left l) refl h (λ r. dropped_true a left c r)
  where
    at : (t : Bool) → has_literal left l ≡ t → clause_true a (if not (not t) then (l ∷ filter (λ l. not (not (has_literal left l))) c) else filter (λ l. not (not (has_literal left l))) c) ≡ true → (clause_true a (filter (λ l. not (not (has_literal left l))) c) ≡ true → clause_true a left ≡ true) → clause_true a left ≡ true
    at true e h next = ⊎_elim (λ t. true_at a left l e t) next (or_cases (literal_true a l) _ h)
    at false e h next = next h

pub joined_true : (a : Assignment) (c d : List Lit) → (clause_true a c ≡ true) ⊎ (clause_true a d ≡ true) → clause_true a (joined c d) ≡ true
joined_true a c d h = list_any-append (literal_true a) c (filter (λ l. not (has_literal c l)) d) ∙ at h
  where
    at : (clause_true a c ≡ true) ⊎ (clause_true a d ≡ true) → (clause_true a c || clause_true a (filter (λ l. not (has_literal c l)) d)) ≡ true
    at (inl e) = or_left _ _ e
    at (inr e) = ⊎_elim (λ k. or_right _ _ k) (λ k. or_left _ _ (dropped_true a c d k)) (kept_or_dropped a (λ l. not (has_literal c l)) d e)

-- ---- the pivot

-- where the pivot's literals are false, another literal makes the clause true
pub true_without : (a : Assignment) (v : ℕ) (n : Bool) (c : List Lit) → a v ≡ n → OneSign v n c → clause_true a c ≡ true → clause_true a (without v c) ≡ true
true_without a v n [] e s h = h
true_without a v n (l ∷ c) e s h = at (l.var.0 == v) refl (or_cases (literal_true a l) (clause_true a c) h) (λ r. true_without a v n c e (sign_rest v n l c s) r)
  where
    pivot_false : (l.var.0 == v) ≡ true → literal_true a l ≡ true → ⊥
    pivot_false i t = at l.negated refl
      where
        here : a l.var.0 ≡ l.negated
        here = ap a (eqb-true l.var.0 v i) ∙ e ∙ sym (sign_first v n l c s i)

        at : (x : Bool) → l.negated ≡ x → ⊥
        at true g = false≢true (sym (ap not (here ∙ g)) ∙ (rw g at t))
        at false g = false≢true (sym (here ∙ g) ∙ (rw g at t))

    at : (t : Bool) → (l.var.0 == v) ≡ t → (literal_true a l ≡ true) ⊎ (clause_true a c ≡ true) → (clause_true a c ≡ true → clause_true a (without v c) ≡ true) → clause_true a (if not t then (l ∷ without v c) else without v c) ≡ true
    at true i (inl t) next = absurd (pivot_false i t)
    at true i (inr r) next = next r
    at false i (inl t) next = or_left _ _ t
    at false i (inr r) next = or_right _ _ (next r)

-- ---- the resolvent

pub survives_resolved : (kept : ℕ) (prefix : List Bound) (m : Assignment → Bool) (v : ℕ) (n : Bool) (left right : List Lit) → OneSign v n left → OneSign v (not n) right → Survives kept prefix m left → Survives kept prefix m right → Survives kept prefix m (resolvent v left right)
survives_resolved kept prefix m v n left right p q s t = record { holds = λ a st. joined_true a (without v left) (without v right) (at a n p q (a v) refl (s.holds a st) (t.holds a st)) }
  where
    at : (a : Assignment) (n : Bool) → OneSign v n left → OneSign v (not n) right → (x : Bool) → a v ≡ x → clause_true a left ≡ true → clause_true a right ≡ true → (clause_true a (without v left) ≡ true) ⊎ (clause_true a (without v right) ≡ true)
    at a false p q true e l r = inr (true_without a v true right e q r)
    at a false p q false e l r = inl (true_without a v false left e p l)
    at a true p q true e l r = inl (true_without a v true left e p l)
    at a true p q false e l r = inr (true_without a v false right e q r)

pub fine_resolved : (kept : ℕ) (prefix : List Bound) (m : Assignment → Bool) (v : ℕ) (n : Bool) (left right : List Lit) → AllApart (prefix_variables prefix) → IsFineClause kept prefix m left → IsFineClause kept prefix m right → OneSign v n left → OneSign v (not n) right → NoOpposites (resolvent v left right) → IsFineClause kept prefix m (resolvent v left right)
fine_resolved kept prefix m v n left right d f g p q alone =
    fine_from_survives kept prefix m (resolvent v left right) d (resolvent_fits_prefix prefix v left right f.fits g.fits alone)
    (survives_resolved kept prefix m v n left right p q (survives_from_fine kept prefix m left f) (survives_from_fine kept prefix m right g))
