-- A cube is fine exactly where the clause of its negated literals is fine under the other quantifiers and for the negated test.
use Rattle.std.proofs.Common.{◌≡◌, ℕ, suc, max, Bool, true, false, not, ◌&&◌, ◌||◌, List, [], ◌∷◌, take, drop, filter, if◌then◌else◌, ◌↔◌, refl, sym, ap, ap₂, ◌∙◌, subst, subst₂}
use Rattle.std.proofs.lemmas.Bool.{not-true, not-false}
use Rattle.std.proofs.lemmas.List.{drop-map, take-map}
use Rattle.bddl_model.specs.declared.formula.Quant.{Quant}
use Rattle.bddl_model.specs.declared.formula.Quant.TheVariants.{Exists, All}
use Rattle.bddl_model.specs.declared.formula.Bound.{Bound}
use Rattle.bddl_model.specs.declared.formula.Lit.{Lit}
use Rattle.bddl_model.specs.Truth.{Assignment, value, join, literal_true, negation, clause_true}
use Rattle.bddl_model.specs.Forms.{has_number, prefix_variables, literal_variables, AllAmong, AllApart, FitsPrefix}
use Rattle.bddl_model.specs.FormulaText.{same_quant}
use Rattle.bddl_model.specs.Fine.{first_block, up_to, last_named, among_first, cube_true, clause_depth, cube_depth, IsFineClause, IsFineCube}
use Rattle.bddl_model.specs.Dual.{other, dual, dual_prefix, negated_literals}
use Rattle.bddl_model.proofs.Assignments.{binds}
use Rattle.bddl_model.proofs.Tseitin.{negation_true}

-- ---- the value

join_other : (q : Quant) (x y : Bool) → join (other q) (not x) (not y) ≡ not (join q x y)
join_other Exists true y = refl
join_other Exists false y = refl
join_other All true y = refl
join_other All false y = refl

pub value_dual : (prefix : List Bound) (m : Assignment → Bool) (a : Assignment) → value (dual_prefix prefix) (λ b. not (m b)) a ≡ not (value prefix m a)
value_dual [] m a = refl
value_dual (x ∷ rest) m a =
    ap₂ (join (other x.quant)) (value_dual rest m _) (value_dual rest m _) ∙ join_other x.quant _ _

value_dual_at : (p : List Bound) (m : Assignment → Bool) (j : ℕ) (a : Assignment) → value (drop j (dual_prefix p)) (λ b. not (m b)) a ≡ not (value (drop j p) m a)
value_dual_at p m j a = ap (λ l. value l (λ b. not (m b)) a) (drop-map dual j p) ∙ value_dual (drop j p) m a

-- ---- variables stay

variables_dual : (p : List Bound) → prefix_variables (dual_prefix p) ≡ prefix_variables p
variables_dual [] = refl
variables_dual (x ∷ p) = ap (λ vs. x.var.0 ∷ vs) (variables_dual p)

variables_negated : (c : List Lit) → literal_variables (negated_literals c) ≡ literal_variables c
variables_negated [] = refl
variables_negated (l ∷ c) = ap (λ vs. l.var.0 ∷ vs) (variables_negated c)

pub fits_dual : (p : List Bound) (c : List Lit) → FitsPrefix p c → FitsPrefix (dual_prefix p) (negated_literals c)
fits_dual p c h = subst₂ (λ bs ls. AllAmong bs ls × AllApart ls) (sym (variables_dual p)) (sym (variables_negated c)) h

pub fits_from_dual : (p : List Bound) (c : List Lit) → FitsPrefix (dual_prefix p) (negated_literals c) → FitsPrefix p c
fits_from_dual p c h = subst₂ (λ bs ls. AllAmong bs ls × AllApart ls) (variables_dual p) (variables_negated c) h

pub apart_dual : (p : List Bound) → AllApart (prefix_variables p) → AllApart (prefix_variables (dual_prefix p))
apart_dual p d = subst AllApart (sym (variables_dual p)) d

-- ---- where they stand

same_other : (q r : Quant) → same_quant (other q) r ≡ same_quant q (other r)
same_other Exists Exists = refl
same_other Exists All = refl
same_other All Exists = refl
same_other All All = refl

pub block_dual : (q : Quant) (p : List Bound) → first_block q (dual_prefix p) ≡ first_block (other q) p
block_dual q [] = refl
block_dual q (x ∷ p) = ap₂ (λ t n. if t then suc n else 0) (same_other x.quant q) (block_dual q p)

pub last_dual : (q : Quant) (p : List Bound) (c : List Lit) → last_named q (dual_prefix p) (negated_literals c) ≡ last_named (other q) p c
last_dual q [] c = refl
last_dual q (x ∷ p) c = ap₂ up_to (last_dual q p c) (ap₂ (λ s t. s && t) (same_other x.quant q) (ap (λ ls. has_number ls x.var.0) (variables_negated c)))

pub depth_dual : (kept : ℕ) (p : List Bound) (c : List Lit) → clause_depth kept (dual_prefix p) (negated_literals c) ≡ cube_depth kept p c
depth_dual kept p c = ap (max kept) (last_dual Exists p c)

pub filter_negated : (f g : Lit → Bool) (c : List Lit) → ((l : Lit) → f (negation l) ≡ g l) → filter f (negated_literals c) ≡ negated_literals (filter g c)
filter_negated f g [] h = refl
filter_negated f g (l ∷ c) h = at (g l) (h l) (filter_negated f g c h)
  where
    at : (t : Bool) → f (negation l) ≡ t → filter f (negated_literals c) ≡ negated_literals (filter g c) → filter f (negated_literals (l ∷ c)) ≡ negated_literals (if t then (l ∷ filter g c) else filter g c)
    at true e r = rw (e, r)
    at false e r = rw (e, r)

pub among_dual : (k : ℕ) (p : List Bound) (c : List Lit) → among_first k (dual_prefix p) (negated_literals c) ≡ negated_literals (among_first k p c)
among_dual k p c =
    filter_negated (λ l. binds (take k (dual_prefix p)) l.var.0) (λ l. binds (take k p) l.var.0) c
    (λ l. ap (λ bs. binds bs l.var.0) (take-map dual k p) ∙ ap (λ vs. has_number vs l.var.0) (variables_dual (take k p)))

-- ---- the truth of literals

pub clause_negated : (a : Assignment) (c : List Lit) → clause_true a (negated_literals c) ≡ not (cube_true a c)
clause_negated a [] = refl
clause_negated a (l ∷ c) = ap₂ (λ s t. s || t) (negation_true a l) (clause_negated a c) ∙ at (literal_true a l) (cube_true a c)
  where
    at : (s t : Bool) → (not s || not t) ≡ not (s && t)
    at true t = refl
    at false t = refl

-- ---- fine

pub clause_from_cube : (kept : ℕ) (p : List Bound) (m : Assignment → Bool) (k : List Lit) → IsFineCube kept p m k → IsFineClause kept (dual_prefix p) (λ a. not (m a)) (negated_literals k)
clause_from_cube kept p m k f = record {
  fits = fits_dual p k f.fits;
  unbroken = λ a st h. f.unbroken a
      (λ j lo hi. not-true _ (sym (value_dual_at p m j a) ∙ st j lo (rw (depth_dual kept p k) hi)))
      (not-false _ (sym (clause_negated a _) ∙ sym (ap (clause_true a) (among_dual (cube_depth kept p k) p k)) ∙ sym (ap (λ n. clause_true a (among_first n (dual_prefix p) (negated_literals k))) (depth_dual kept p k)) ∙ h));
}

pub cube_from_clause : (kept : ℕ) (p : List Bound) (m : Assignment → Bool) (k : List Lit) → IsFineClause kept (dual_prefix p) (λ a. not (m a)) (negated_literals k) → IsFineCube kept p m k
cube_from_clause kept p m k f = record {
  fits = fits_from_dual p k f.fits;
  unbroken = λ a st h. f.unbroken a
      (λ j lo hi. value_dual_at p m j a ∙ ap not (st j lo (rw (depth_dual kept p k) at hi)))
      (ap (λ n. clause_true a (among_first n (dual_prefix p) (negated_literals k))) (depth_dual kept p k) ∙ ap (clause_true a) (among_dual (cube_depth kept p k) p k) ∙ clause_negated a _ ∙ ap not h);
}

-- a cube is fine exactly where its negation is a fine clause of the dual
pub cube_is_dual : (kept : ℕ) (p : List Bound) (m : Assignment → Bool) (k : List Lit) → IsFineCube kept p m k ↔ IsFineClause kept (dual_prefix p) (λ a. not (m a)) (negated_literals k)
cube_is_dual kept p m k = (clause_from_cube kept p m k, cube_from_clause kept p m k)
