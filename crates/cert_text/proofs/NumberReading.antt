-- Numbers are read back from their digits, and from nothing else.
use Rattle.std.proofs.Common.{◌≡◌, ◌≢◌, ℕ, zero, suc, ◌+◌, ◌-◌, ◌*◌, ◌/◌, ◌%◌, ◌^◌, ◌<◌, ◌≤◌, true, false, nat_eq, nat_le, nat_lt, if◌then◌else◌, List, [], ◌∷◌, ◌++◌, None, Some, refl, sym, ap, ◌∙◌, arith, eq-eqb, inl, inr, append_assoc}
use Rattle.std.specs.Fmt.{decimal}
use Rattle.std.proofs.lemmas.Bool.{cases_Bool, eqb-true, ne_eqb, le-leb, leb-true, and_from, and_parts}
use Rattle.std.proofs.lemmas.Bool.Decides.{Decides-ltb}
use Rattle.std.proofs.lemmas.Fmt.{decimal_digit, decimal_step, decimal_by_steps}
use Rattle.cert_text.specs.Reading.{byte_at, is_digit, digits_at, number_at, spaced_at}
use Rattle.cert_text.proofs.Words.{parts, steps, byte_sound}

-- behind a number stands no digit
abbrev pub EndsNumber : List ℕ → Type 0
EndsNumber [] = Unit {0}
EndsNumber (b ∷ bytes) = is_digit b ≡ false

-- a space, a number, and these bytes
abbrev pub spaced_text : ℕ → List ℕ → List ℕ
spaced_text n rest = 32 ∷ (decimal n ++ rest)

digit_is : (d : ℕ) → d < 10 → is_digit (48 + d) ≡ true
digit_is d h = and_from (nat_le 48 (48 + d)) (nat_le (48 + d) 57) (le-leb 48 (48 + d) (omega arith)) (le-leb (48 + d) 57 (omega arith))

digit_range : (d : ℕ) → is_digit d ≡ true → (48 ≤ d) × (d ≤ 57)
digit_range d h = let p = and_parts (nat_le 48 d) (nat_le d 57) h in (leb-true 48 d p.0, leb-true d 57 p.1)

below : (m n : ℕ) → m < n → nat_lt m n ≡ true
below m n h = (Decides-ltb m n).1 h

-- ---- read back

digits_end : (limit value : ℕ) (rest : List ℕ) → EndsNumber rest → digits_at limit value rest ≡ Some (value, rest)
digits_end limit value [] e = refl
digits_end limit value (b ∷ bytes) e = rw e refl

module _ (limit : ℕ) where
  abbrev ReadsBack : ℕ → List ℕ → Type 0
  ReadsBack n ds = 0 < n → n < limit → (rest : List ℕ) → number_at limit (ds ++ rest) ≡ digits_at limit n rest

  one : (n : ℕ) → n < 10 → ReadsBack n ((48 + n) ∷ [])
  unfolding number_at
  one n small some fits rest =
      let other : 48 + n ≢ 48 = λ e. omega arith in
      let value : 48 + n - 48 ≡ n = omega arith in
      rw (ne_eqb (48 + n) 48 other, digit_is n small) (ap (λ (m : ℕ). digits_at limit m rest) value)

  more : (n : ℕ) (ds : List ℕ) → 10 ≤ n → ReadsBack (n / 10) ds → ReadsBack n (ds ++ (48 + n % 10) ∷ [])
  more n ds big so some fits rest =
      let last : n % 10 < 10 = omega arith in
      let value : 10 * (n / 10) + (48 + n % 10 - 48) ≡ n = omega arith in
      ap (number_at limit) (append_assoc ds ((48 + n % 10) ∷ []) rest) ∙ so (omega arith) (omega arith) ((48 + n % 10) ∷ rest)
      ∙ rw (digit_is (n % 10) last) (ap (λ (m : ℕ). if nat_lt m limit then digits_at limit m rest else None) value ∙ rw (below n limit fits) refl)

  zero_back : (rest : List ℕ) → number_at limit (decimal 0 ++ rest) ≡ Some (0, rest)
  unfolding number_at
  zero_back rest = rw (decimal_digit 0 (omega arith)) refl

  number_back : (n : ℕ) (rest : List ℕ) → limit ≤ 2 ^ 64 → n < limit → EndsNumber rest → number_at limit (decimal n ++ rest) ≡ Some (n, rest)
  number_back zero rest wide fits e = zero_back rest
  number_back (suc n) rest wide fits e = decimal_by_steps ReadsBack one more (suc n) (omega arith) (omega arith) fits rest ∙ digits_end limit (suc n) rest e

  pub spaced_back : (n : ℕ) (rest : List ℕ) → limit ≤ 2 ^ 64 → n < limit → EndsNumber rest → spaced_at limit (spaced_text n rest) ≡ Some (n, rest)
  unfolding spaced_at
  spaced_back n rest wide fits e = number_back n rest wide fits e

-- ---- nothing else is read

digit_more : (value b : ℕ) → 0 < value → 10 * value + (b - 48) < 2 ^ 64 → (48 ≤ b) × (b ≤ 57) → decimal (10 * value + (b - 48)) ≡ decimal value ++ b ∷ []
digit_more value b some fits range =
    let low = range.0 in
    let high = range.1 in
    let front : (10 * value + (b - 48)) / 10 ≡ value = omega arith in
    let last : 48 + (10 * value + (b - 48)) % 10 ≡ b = omega arith in
    decimal_step (10 * value + (b - 48)) (omega arith) fits ∙ rw (front, last) refl

digits_sound : (limit value : ℕ) (bytes : List ℕ) (n : ℕ) (rest : List ℕ) → limit ≤ 2 ^ 64 → 0 < value → value < limit → digits_at limit value bytes ≡ Some (n, rest) → (decimal value ++ bytes ≡ decimal n ++ rest) × (n < limit)
digits_sound limit value [] n rest wide some fits h = let p = parts value n [] rest h in (rw (p.0, p.1) refl, (let e = p.0 in omega arith))
digits_sound limit value (b ∷ bytes) n rest wide some fits h = elim (cases_Bool (is_digit b)) [
  | inr end ↦ let p = parts value n (b ∷ bytes) rest (rw end at h) in (rw (p.0, p.1) refl, (let e = p.0 in omega arith))
  | inl digit ↦ go digit (λ more lt g. digits_sound limit (10 * value + (b - 48)) bytes n rest wide more lt g) (rw digit at h)
]
  where
    go : is_digit b ≡ true
        → (0 < 10 * value + (b - 48) → 10 * value + (b - 48) < limit → digits_at limit (10 * value + (b - 48)) bytes ≡ Some (n, rest) → (decimal (10 * value + (b - 48)) ++ bytes ≡ decimal n ++ rest) × (n < limit))
        → (if nat_lt (10 * value + (b - 48)) limit then digits_at limit (10 * value + (b - 48)) bytes else None) ≡ Some (n, rest) → (decimal value ++ b ∷ bytes ≡ decimal n ++ rest) × (n < limit)
    go digit further h = elim (cases_Bool (nat_lt (10 * value + (b - 48)) limit)) [
      | inr big ↦ absurd (let z : None ≡ Some (n, rest) = rw big at h in cc)
      | inl small ↦
          let lt = (Decides-ltb (10 * value + (b - 48)) limit).0 small in
          let later = further (omega arith) lt (rw small at h) in
          (sym (append_assoc (decimal value) (b ∷ []) bytes) ∙ ap (λ ds. ds ++ bytes) (sym (digit_more value b some (omega arith) (digit_range b digit))) ∙ later.0, later.1)
    ]

number_sound : (limit : ℕ) (bytes : List ℕ) (n : ℕ) (rest : List ℕ) → 10 ≤ limit → limit ≤ 2 ^ 64 → number_at limit bytes ≡ Some (n, rest) → (bytes ≡ decimal n ++ rest) × (n < limit)
unfolding number_at
number_sound limit [] n rest ten wide h = absurd cc
number_sound limit (b ∷ bytes) n rest ten wide h = elim (cases_Bool (nat_eq b 48)) [
  | inl null ↦
      let p = parts 0 n bytes rest (rw null at h) in
      let none = p.0 in
      (rw (eqb-true b 48 null, p.1) (sym (rw (sym none) (ap (λ ds. ds ++ rest) (decimal_digit 0 (omega arith))))), omega arith)
  | inr some ↦ go some (rw some at h)
]
  where
    go : nat_eq b 48 ≡ false → (if is_digit b then digits_at limit (b - 48) bytes else None) ≡ Some (n, rest) → (b ∷ bytes ≡ decimal n ++ rest) × (n < limit)
    go some h = elim (cases_Bool (is_digit b)) [
      | inr other ↦ absurd (let z : None ≡ Some (n, rest) = rw other at h in cc)
      | inl digit ↦
          let range = digit_range b digit in
          let low = range.0 in
          let high = range.1 in
          let more : b ≢ 48 = λ e. (let z : true ≡ false = sym (eq-eqb b 48 e) ∙ some in cc) in
          let glyph : 48 + (b - 48) ≡ b = omega arith in
          let first : decimal (b - 48) ≡ b ∷ [] = decimal_digit (b - 48) (omega arith) ∙ ap (λ (c : ℕ). c ∷ []) glyph in
          let later = digits_sound limit (b - 48) bytes n rest wide (omega arith) (omega arith) (rw digit at h) in
          (ap (λ ds. ds ++ bytes) (sym first) ∙ later.0, later.1)
    ]

pub spaced_sound : (limit : ℕ) (bytes : List ℕ) (n : ℕ) (rest : List ℕ) → 10 ≤ limit → limit ≤ 2 ^ 64 → spaced_at limit bytes ≡ Some (n, rest) → (bytes ≡ spaced_text n rest) × (n < limit)
unfolding spaced_at
spaced_sound limit bytes n rest ten wide h =
    let s = steps (byte_at 32) (λ u. number_at limit) bytes rest n h in
    let p = number_sound limit s.1 n rest ten wide s.3 in
    (byte_sound 32 bytes s.1 s.0 s.2 ∙ ap (λ (l : List ℕ). 32 ∷ l) p.0, p.1)
