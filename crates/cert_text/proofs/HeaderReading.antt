-- A header is read back from its text, and from nothing else.
use Rattle.std.proofs.Common.{◌≡◌, ℕ, ◌<◌, nat_eq, nat_le, List, [], ◌∷◌, ◌++◌, Option, None, Some, refl, sym, ap, ◌∙◌, arith, inl, inr}
use Rattle.std.specs.Prelude.{codes}
use Rattle.std.specs.Fmt.{decimal}
use Rattle.std.proofs.lemmas.Bool.{cases_Bool, eqb-true, le-leb, leb-true}
use Rattle.bddl_model.specs.CertificateText.{Version, ordered, numbered, version_number, header_text}
use Rattle.bddl_model.specs.CertificateFaults.{IsCount, NoHeader}
use Rattle.cert_text.specs.Reading.{and_then, byte_at, word_at, spaced_at, known_at, version_numbered, counts, counted, header_at}
use Rattle.cert_text.proofs.Words.{parts, steps, byte_sound, word_sound}
use Rattle.cert_text.proofs.NumberReading.{spaced_text, spaced_back, spaced_sound}
use Rattle.cert_text.proofs.LineReading.{words_spaced}

abbrev header_front : Version → ℕ → List ℕ → List ℕ
header_front v count rest = codes "bddlcert" ++ spaced_text (version_number v) (spaced_text count (10 ∷ rest))

header_is : (v : Version) (count : ℕ) (rest : List ℕ) → header_text v count ++ rest ≡ header_front v count rest
header_is v count rest = words_spaced (codes "bddlcert") (decimal (version_number v) ∷ decimal count ∷ []) rest

-- ---- read back

version_back : (v : Version) → version_numbered (version_number v) ≡ Some v
version_back ordered = refl
version_back numbered = refl

number_fits : (v : Version) → version_number v < 18446744073709551616
number_fits ordered = omega arith
number_fits numbered = omega arith

count_fits : (v : Version) (count : ℕ) → IsCount v count → count < 18446744073709551616
count_fits ordered count h = omega arith
count_fits numbered count h = let fits = h.1 in omega arith

counted_back : (v : Version) (count : ℕ) → IsCount v count → counted v count ≡ Some (v, count)
counted_back ordered count h = refl
counted_back numbered count h = rw (le-leb 1 count h.0) refl

front_back : (v : Version) (count : ℕ) (rest : List ℕ) → IsCount v count → header_at (header_front v count rest) ≡ Some ((v, count), rest)
unfolding header_at
front_back v count rest h =
    rw (spaced_back 18446744073709551616 (version_number v) (spaced_text count (10 ∷ rest)) (omega arith) (number_fits v) refl, version_back v)
    (rw (spaced_back 18446744073709551616 count (10 ∷ rest) (omega arith) (count_fits v count h) refl, counted_back v count h) refl)

pub header_back : (v : Version) (count : ℕ) (rest : List ℕ) → IsCount v count → header_at (header_text v count ++ rest) ≡ Some ((v, count), rest)
header_back v count rest h = ap header_at (header_is v count rest) ∙ front_back v count rest h

-- ---- nothing else is read

known_sound : {A : Type 0} (o : Option A) (bytes rest : List ℕ) (x : A) → known_at o bytes ≡ Some (x, rest) → (o ≡ Some x) × (bytes ≡ rest)
known_sound None bytes rest x h = absurd cc
known_sound {A} (Some y) bytes rest x h = let p = parts {A = A} y x bytes rest h in (ap (λ (z : A). Some z) p.0, p.1)

version_sound : (n : ℕ) (v : Version) → version_numbered n ≡ Some v → n ≡ version_number v
version_sound n v h = elim (cases_Bool (nat_eq n 1)) [
  | inl one ↦ (let z : Some ordered ≡ Some v = rw one at h in let same : ordered ≡ v = cc in rw (← same) (eqb-true n 1 one))
  | inr other ↦ elim (cases_Bool (nat_eq n 2)) [
    | inl two ↦ (let z : Some numbered ≡ Some v = rw (other, two) at h in let same : numbered ≡ v = cc in rw (← same) (eqb-true n 2 two))
    | inr none ↦ absurd (let z : None ≡ Some v = rw (other, none) at h in cc)
  ]
]

counted_sound : (v w : Version) (n count : ℕ) → n < 18446744073709551616 → counted v n ≡ Some (w, count) → (v ≡ w) × (n ≡ count) × IsCount w count
counted_sound ordered w n count fits h =
    let z : ◌≡◌ {A = Version × ℕ} (ordered, n) (w, count) = cc in
    let same : ordered ≡ w = ap (λ (p : Version × ℕ). p.0) z in
    let number : n ≡ count = ap (λ (p : Version × ℕ). p.1) z in
    (same, number, rw (← same, ← number) fits)
counted_sound numbered w n count fits h = elim (cases_Bool (nat_le 1 n)) [
  | inr none ↦ absurd (let z : None ≡ Some (w, count) = rw none at h in cc)
  | inl some ↦
      let y : ◌≡◌ {A = Option (Version × ℕ)} (Some (numbered, n)) (Some (w, count)) = rw some at h in
      let z : ◌≡◌ {A = Version × ℕ} (numbered, n) (w, count) = cc in
      let same : numbered ≡ w = ap (λ (p : Version × ℕ). p.0) z in
      let number : n ≡ count = ap (λ (p : Version × ℕ). p.1) z in
      (same, number, rw (← same, ← number) (leb-true 1 n some, fits))
]

pub header_sound : (bytes rest : List ℕ) (w : Version) (count : ℕ) → header_at bytes ≡ Some ((w, count), rest) → (bytes ≡ header_text w count ++ rest) × IsCount w count
unfolding header_at
header_sound bytes rest w count h =
    let wide : ℕ → List ℕ → Option ((Version × ℕ) × List ℕ) = λ n b. and_then (known_at (version_numbered n) b) (λ v. and_then (spaced_at 18446744073709551616 v.1) (λ c. and_then (byte_at 10 c.1) (λ u. known_at (counted v.0 c.0) u.1))) in
    let first = steps (word_at (codes "bddlcert")) (λ u b. and_then (spaced_at 18446744073709551616 b) (λ n. wide n.0 n.1)) bytes rest (w, count) h in
    let second = steps (spaced_at 18446744073709551616) wide first.1 rest (w, count) first.3 in
    let third = steps (known_at (version_numbered second.0)) (λ v b. and_then (spaced_at 18446744073709551616 b) (λ c. and_then (byte_at 10 c.1) (λ u. known_at (counted v c.0) u.1))) second.1 rest (w, count) second.3 in
    let fourth = steps (spaced_at 18446744073709551616) (λ c b. and_then (byte_at 10 b) (λ u. known_at (counted third.0 c) u.1)) third.1 rest (w, count) third.3 in
    let fifth = steps (byte_at 10) (λ u b. known_at (counted third.0 fourth.0) b) fourth.1 rest (w, count) fourth.3 in
    let made = known_sound (counted third.0 fourth.0) fifth.1 rest (w, count) fifth.3 in
    joined bytes first.1 second.1 third.1 fourth.1 fifth.1 rest second.0 fourth.0 third.0 w count
    (word_sound (codes "bddlcert") bytes first.1 first.0 first.2)
    (spaced_sound 18446744073709551616 first.1 second.0 second.1 (omega arith) (omega arith) second.2)
    (known_sound (version_numbered second.0) second.1 third.1 third.0 third.2)
    (spaced_sound 18446744073709551616 third.1 fourth.0 fourth.1 (omega arith) (omega arith) fourth.2)
    (byte_sound 10 fourth.1 fifth.1 fifth.0 fifth.2)
    made
  where
    joined : (bytes a b c d e rest : List ℕ) (n m : ℕ) (v w : Version) (count : ℕ) → bytes ≡ codes "bddlcert" ++ a → (a ≡ spaced_text n b) × (n < 18446744073709551616) → (version_numbered n ≡ Some v) × (b ≡ c)
        → (c ≡ spaced_text m d) × (m < 18446744073709551616) → d ≡ 10 ∷ e → (counted v m ≡ Some (w, count)) × (e ≡ rest) → (bytes ≡ header_text w count ++ rest) × IsCount w count
    joined bytes a b c d e rest n m v w count h1 h2 h3 h4 h5 h6 =
        let q = counted_sound v w m count h4.1 h6.0 in
        let number : n ≡ version_number w = version_sound n v h3.0 ∙ ap version_number q.0 in
        (h1 ∙ rw (h2.0, h3.1, h4.0, h5, h6.1, number, q.1) (sym (header_is w count rest)), q.2)

pub no_header : (bytes : List ℕ) → header_at bytes ≡ None → NoHeader bytes
no_header bytes h v count rest counts e = let z : ◌≡◌ {A = Option ((Version × ℕ) × List ℕ)} None (Some ((v, count), rest)) = sym h ∙ ap header_at e ∙ header_back v count rest counts in cc

pub no_header_read : (bytes : List ℕ) → NoHeader bytes → header_at bytes ≡ None
no_header_read bytes h = go (header_at bytes) refl
  where
    go : (read : Option ((Version × ℕ) × List ℕ)) → header_at bytes ≡ read → header_at bytes ≡ None
    go None e = e
    go (Some r) e = let s = header_sound bytes r.1 r.0.0 r.0.1 e in absurd (h r.0.0 r.0.1 r.1 s.1 s.0)
