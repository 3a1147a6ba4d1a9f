-- Numbers of constraints are the same where the test says so.
use Rattle.std.proofs.Common.{◌≡◌, ◌≢◌, true, false, refl, sym, ap, ◌∙◌, eqb-true, eq-eqb}
use Rattle.std.proofs.lemmas.Bool.{false≢true}
use Rattle.qbf_store.specs.declared.constraint.ConstraintId.{ConstraintId}
use Rattle.qbf_store.specs.declared.constraint.ConstraintId.TheVariants.{Original, Learned}
use Rattle.qbf_store.specs.Constraints.{same_id}

pub ids_same : (a b : ConstraintId) → same_id a b ≡ true → a ≡ b
ids_same (Original n) (Original m) h = ap (λ k. Original k) (eqb-true n m h)
ids_same (Original n) (Learned m) h = absurd cc
ids_same (Learned n) (Original m) h = absurd cc
ids_same (Learned n) (Learned m) h = ap (λ k. Learned k) (eqb-true n m h)

pub id_same : (a : ConstraintId) → same_id a a ≡ true
id_same (Original n) = eq-eqb n n refl
id_same (Learned n) = eq-eqb n n refl

pub ids_differ : (a b : ConstraintId) → same_id a b ≡ false → a ≢ b
ids_differ a b h e = false≢true (sym h ∙ ap (λ x. same_id a x) (sym e) ∙ id_same a)
