-- Bytes and words at the front of a text, and one reading after the other.
use Rattle.std.proofs.Common.{◌≡◌, ◌≢◌, ℕ, nat_eq, List, [], ◌∷◌, ◌++◌, Option, None, Some, Bor, refl, ap, subst, ◌∙◌, eq-eqb, inl, inr}
use Rattle.std.specs.Prelude.{MatchOption}
use Rattle.std.proofs.lemmas.Bool.{cases_Bool, eqb-true}
use Rattle.cert_text.specs.Reading.{Read, and_then, byte_at, word_at, Finds}

pub parts : {A : Type 0} (a x : A) (r s : List ℕ) → ◌≡◌ {A = Option (A × List ℕ)} (Some (a, r)) (Some (x, s)) → (a ≡ x) × (r ≡ s)
parts {A} a x r s h = let z : ◌≡◌ {A = A × List ℕ} (a, r) (x, s) = cc in (ap (λ (p : A × List ℕ). p.0) z, ap (λ (p : A × List ℕ). p.1) z)

-- what holds of a value and the bytes behind it
pub same_read : {A : Type 0} (P : A → List ℕ → Type 0) (a x : A) (r s : List ℕ) → ◌≡◌ {A = Option (A × List ℕ)} (Some (a, r)) (Some (x, s)) → P a r → P x s
same_read {A} P a x r s h q = let p = parts a x r s h in subst (λ l. P x l) p.1 (subst (λ b. P b r) p.0 q)

pub in_front : {A : Type 0} (text : A → List ℕ) (bytes : List ℕ) (a b : A) → bytes ≡ text a → a ≡ b → bytes ≡ text b
in_front text bytes a b h same = h ∙ ap text same

-- what was read first, and what behind it
pub steps : {A B : Type 0} (p : Read A) (q : A → Read B) (bytes rest : List ℕ) (y : B) → and_then (p bytes) (λ r. q r.0 r.1) ≡ Some (y, rest)
    → (x : A) × (mid : List ℕ) × (p bytes ≡ Some (x, mid)) × (q x mid ≡ Some (y, rest))
steps {A} {B} p q bytes rest y h = go (p bytes) refl h
  where
    go : (read : Option (A × List ℕ)) → p bytes ≡ read → and_then read (λ r. q r.0 r.1) ≡ Some (y, rest) → (x : A) × (mid : List ℕ) × (p bytes ≡ Some (x, mid)) × (q x mid ≡ Some (y, rest))
    go None e h = absurd cc
    go (Some r) e h = (r.0, r.1, e, h)

pub byte_sound : (c : ℕ) (bytes rest : List ℕ) (u : Unit {0}) → byte_at c bytes ≡ Some (u, rest) → bytes ≡ c ∷ rest
byte_sound c [] rest u h = absurd cc
byte_sound c (b ∷ bytes) rest u h = elim (cases_Bool (nat_eq b c)) [
  | inl same ↦ let f : b ≡ c = eqb-true b c same in let g = parts tt u bytes rest (rw same at h) in rw (f, g.1) refl
  | inr other ↦ absurd (let z : None ≡ Some (u, rest) = rw other at h in cc)
]

pub word_back : (word rest : List ℕ) → word_at word (word ++ rest) ≡ Some (tt, rest)
word_back [] rest = refl
word_back (c ∷ cs) rest = rw (eq-eqb c c refl) (word_back cs rest)

pub word_sound : (word bytes rest : List ℕ) (u : Unit {0}) → word_at word bytes ≡ Some (u, rest) → bytes ≡ word ++ rest
word_sound [] bytes rest u h = (parts tt u bytes rest h).1
word_sound (c ∷ cs) [] rest u h = absurd cc
word_sound (c ∷ cs) (b ∷ bytes) rest u h = elim (cases_Bool (nat_eq b c)) [
  | inl same ↦ let e : word_at cs bytes ≡ Some (u, rest) = rw same at h in let f : b ≡ c = eqb-true b c same in let g = word_sound cs bytes rest u e in rw (f, g) refl
  | inr other ↦ absurd (let z : None ≡ Some (u, rest) = rw other at h in cc)
]

none_found : (word bytes : List ℕ) → ((rest : List ℕ) → bytes ≢ word ++ rest) → word_at word bytes ≡ None
none_found word bytes h = go (word_at word bytes) refl
  where
    go : (read : Option (Unit {0} × List ℕ)) → word_at word bytes ≡ read → word_at word bytes ≡ None
    go None e = e
    go (Some x) e = absurd (h x.1 (word_sound word bytes x.1 x.0 e))

pub word_found : (word bytes : List ℕ) (r : Option (Bor (List ℕ))) → MatchOption r ((rest : List ℕ) → bytes ≢ word ++ rest) (λ x. bytes ≡ word ++ x.now) → Finds (λ (x : Bor (List ℕ)). (tt, x.now)) r (word_at word bytes)
word_found word bytes None h = none_found word bytes h
word_found word bytes (Some x) h = ap (word_at word) h ∙ word_back word x.now
