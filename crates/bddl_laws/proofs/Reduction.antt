-- Reduction keeps a clause and a cube fine.
use Rattle.std.proofs.Common.{◌≡◌, ℕ, ◌≤◌, max, Bool, true, false, not, ◌&&◌, List, [], ◌∷◌, take, filter, if◌then◌else◌, refl, sym, ap, ap₂, ◌∙◌, subst, arith, eq-eqb}
use Rattle.std.proofs.lemmas.Bool.{or_left, or_right, and_from}
use Rattle.bddl_model.specs.declared.formula.Quant.{Quant}
use Rattle.bddl_model.specs.declared.formula.Quant.TheVariants.{Exists}
use Rattle.bddl_model.specs.declared.formula.Bound.{Bound}
use Rattle.bddl_model.specs.declared.formula.Lit.{Lit}
use Rattle.bddl_model.specs.Truth.{Assignment, clause_true}
use Rattle.bddl_model.specs.Forms.{FitsPrefix}
use Rattle.bddl_model.specs.FormulaText.{same_quant}
use Rattle.bddl_model.specs.Fine.{up_to, last_named, among_first, clause_depth, cube_depth, IsFineClause, IsFineCube}
use Rattle.bddl_model.specs.Resolution.{reduced_clause, reduced_cube}
use Rattle.bddl_model.proofs.Assignments.{binds}
use Rattle.bddl_laws.proofs.Fitting.{names, names_fewer, names_kept, fits_fewer}
use Rattle.bddl_laws.proofs.Places.{binds_by, named_within}
use Rattle.bddl_laws.proofs.Survival.{Stays}
use Rattle.bddl_model.specs.Dual.{dual_prefix, negated_literals}
use Rattle.bddl_laws.proofs.Duality.{depth_dual, among_dual, clause_from_cube, cube_from_clause}

filter_twice : (test : Lit → Bool) (c : List Lit) → filter test (filter test c) ≡ filter test c
filter_twice test [] = refl
filter_twice test (l ∷ c) = at (test l) refl (filter_twice test c)
  where
    at : (t : Bool) → test l ≡ t → filter test (filter test c) ≡ filter test c → filter test (if t then (l ∷ filter test c) else filter test c) ≡ (if t then (l ∷ filter test c) else filter test c)
    at true e r = rw (e, r)
    at false e r = r

-- ---- the depth stays

last_same : (q : Quant) (p : List Bound) (c d : List Lit) → ((v : ℕ) → binds_by q p v ≡ true → names d v ≡ names c v) → last_named q p d ≡ last_named q p c
last_same q [] c d h = refl
last_same q (x ∷ p) c d h = ap₂ up_to (last_same q p c d (λ v i. h v (or_right _ _ i))) (at (same_quant x.quant q) refl)
  where
    at : (t : Bool) → same_quant x.quant q ≡ t → (t && names d x.var.0) ≡ (t && names c x.var.0)
    at true e = h x.var.0 (or_left _ _ (and_from _ _ (eq-eqb x.var.0 x.var.0 refl) e))
    at false e = refl

last_kept : (kept : ℕ) (prefix : List Bound) (c : List Lit) → last_named Exists prefix (reduced_clause kept prefix c) ≡ last_named Exists prefix c
last_kept kept prefix c = last_same Exists prefix c (reduced_clause kept prefix c) (λ v h. same v h (names c v) refl (omega arith))
  where
    same : (v : ℕ) → binds_by Exists prefix v ≡ true → (t : Bool) → names c v ≡ t → last_named Exists prefix c ≤ clause_depth kept prefix c → names (reduced_clause kept prefix c) v ≡ names c v
    same v h true e le = names_kept (λ v. binds (take (clause_depth kept prefix c) prefix) v) c v (named_within Exists prefix (clause_depth kept prefix c) c v le h e)
    same v h false e le = names_fewer (λ l. binds (take (clause_depth kept prefix c) prefix) l.var.0) c v e ∙ sym e

depth_kept : (kept : ℕ) (prefix : List Bound) (c : List Lit) → clause_depth kept prefix (reduced_clause kept prefix c) ≡ clause_depth kept prefix c
depth_kept kept prefix c = ap (max kept) (last_kept kept prefix c)

-- ---- fine

pub fits_reduced : (kept : ℕ) (prefix : List Bound) (c : List Lit) → FitsPrefix prefix c → FitsPrefix prefix (reduced_clause kept prefix c)
fits_reduced kept prefix c f = fits_fewer (λ l. binds (take (clause_depth kept prefix c) prefix) l.var.0) prefix c f

pub fine_reduced : (kept : ℕ) (prefix : List Bound) (m : Assignment → Bool) (c : List Lit) → IsFineClause kept prefix m c → IsFineClause kept prefix m (reduced_clause kept prefix c)
fine_reduced kept prefix m c f = record {
  fits = fits_reduced kept prefix c f.fits;
  unbroken = subst (λ k. (a : Assignment) → Stays kept prefix m k a → clause_true a (among_first k prefix (reduced_clause kept prefix c)) ≡ false → ⊥) (sym (depth_kept kept prefix c))
      (λ a st h. f.unbroken a st (sym (ap (clause_true a) (filter_twice (λ l. binds (take (clause_depth kept prefix c) prefix) l.var.0) c)) ∙ h));
}

-- ---- cubes

reduced_dual : (kept : ℕ) (prefix : List Bound) (k : List Lit) → reduced_clause kept (dual_prefix prefix) (negated_literals k) ≡ negated_literals (reduced_cube kept prefix k)
reduced_dual kept prefix k = ap (λ n. among_first n (dual_prefix prefix) (negated_literals k)) (depth_dual kept prefix k) ∙ among_dual (cube_depth kept prefix k) prefix k

pub fits_reduced_cube : (kept : ℕ) (prefix : List Bound) (k : List Lit) → FitsPrefix prefix k → FitsPrefix prefix (reduced_cube kept prefix k)
fits_reduced_cube kept prefix k f = fits_fewer (λ l. binds (take (cube_depth kept prefix k) prefix) l.var.0) prefix k f

pub fine_reduced_cube : (kept : ℕ) (prefix : List Bound) (m : Assignment → Bool) (k : List Lit) → IsFineCube kept prefix m k → IsFineCube kept prefix m (reduced_cube kept prefix k)
fine_reduced_cube kept prefix m k f =
    cube_from_clause kept prefix m (reduced_cube kept prefix k) (subst (IsFineClause kept (dual_prefix prefix) (λ a. not (m a))) (reduced_dual kept prefix k)
    (fine_reduced kept (dual_prefix prefix) (λ a. not (m a)) (negated_literals k) (clause_from_cube kept prefix m k f)))
