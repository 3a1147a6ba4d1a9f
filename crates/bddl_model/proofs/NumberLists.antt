-- Lists of numbers that all pass a test, and lists one behind the other.
use Rattle.std.proofs.Common.{◌≡◌, ℕ, Bool, true, ◌||◌, nat_eq, List, [], ◌∷◌, ◌++◌, inl, inr, refl, sym, ap, subst, ◌∙◌}
use Rattle.std.proofs.lemmas.Bool.{or_cases, eqb-true}
use Rattle.std.proofs.Math.Bool.{or_assoc}
use Rattle.bddl_model.specs.Forms.{has_number, AllPass, AllInRange}

pub AllPass-append : (test : ℕ → Bool) (xs ys : List ℕ) → AllPass test xs → AllPass test ys → AllPass test (xs ++ ys)
AllPass-append test [] ys a b = b
AllPass-append test (x ∷ xs) ys a b = (a.0, AllPass-append test xs ys a.1 b)

pub one_passes : (test : ℕ → Bool) (vs : List ℕ) (v : ℕ) → AllPass test vs → has_number vs v ≡ true → test v ≡ true
one_passes test [] v all h = absurd cc
one_passes test (w ∷ vs) v all h = elim (or_cases (nat_eq w v) (has_number vs v) h) [
  | inl here ↦ subst (λ x. test x ≡ true) (eqb-true w v here) all.0
  | inr later ↦ one_passes test vs v all.1 later
]

-- what passes one test passes another
pub all_pass_other : (test other : ℕ → Bool) (vs : List ℕ) → ((v : ℕ) → test v ≡ true → other v ≡ true) → AllPass test vs → AllPass other vs
all_pass_other test other [] also h = tt
all_pass_other test other (v ∷ vs) also h = (also v h.0, all_pass_other test other vs also h.1)

pub ranges_parts : (most : ℕ) (xs ys : List ℕ) → AllInRange most (xs ++ ys) → AllInRange most xs × AllInRange most ys
ranges_parts most [] ys h = (tt, h)
ranges_parts most (x ∷ xs) ys h = let r = ranges_parts most xs ys h.1 in ((h.0, r.0), r.1)

pub has_append : (xs ys : List ℕ) (v : ℕ) → has_number (xs ++ ys) v ≡ (has_number xs v || has_number ys v)
has_append [] ys v = refl
has_append (x ∷ xs) ys v = ap (λ b. nat_eq x v || b) (has_append xs ys v) ∙ sym (or_assoc (nat_eq x v) (has_number xs v) (has_number ys v))
