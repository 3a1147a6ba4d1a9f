-- Numbers are compared bit by bit.
use Rattle.std.proofs.Common.{◌≡◌, ◌≢◌, ℕ, ◌≤◌, ◌+◌, ◌*◌, ◌/◌, ◌%◌, Bool, true, false, not, ◌&&◌, ◌||◌, ◌==◌, nat_le, if◌then◌else◌, ◌⊎◌, inl, inr, ⊎_elim, sym, ◌∙◌, arith, ne_eqb, eq-eqb}
use Rattle.std.specs.Bool.{beq}
use Rattle.std.proofs.lemmas.Bool.{cases_eq, cases_lt, le-leb, lt-leb}
use Rattle.std.proofs.lemmas.Bool.Decides.{nat_tests}
use Rattle.bit_arith.specs.Digits.{digit}

pub equal_odd : (b : Bool) (m k : ℕ) → (digit b + 2 * m == k) ≡ (beq (k % 2 == 1) b && (m == k / 2))
equal_odd true m k = grind (arith, nat_tests)
equal_odd false m k = grind (arith, nat_tests)

pub equal_digits : (b c : Bool) (m k : ℕ) → (digit b + 2 * m == digit c + 2 * k) ≡ (beq b c && (m == k))
equal_digits true true m k = grind (arith, nat_tests)
equal_digits true false m k = grind (arith, nat_tests)
equal_digits false true m k = grind (arith, nat_tests)
equal_digits false false m k = grind (arith, nat_tests)

same_order : (a b c d : ℕ) → (a ≤ b → c ≤ d) → (c ≤ d → a ≤ b) → nat_le a b ≡ nat_le c d
same_order a b c d f g = ⊎_elim
    (λ l. lt-leb a b l ∙ sym (lt-leb c d (⊎_elim (λ m. m) (λ m. let n : a ≤ b = g m in absurd (omega arith)) (cases_lt d c))))
    (λ l. le-leb a b l ∙ sym (le-leb c d (f l))) (cases_lt b a)

-- whether a number is at least k, by its least bits, where r says it of these
pub reached_by_bit : (b r : Bool) (m k : ℕ) → nat_le (k + digit (not r)) (digit b + 2 * m) ≡ nat_le (k / 2 + digit (not (if k % 2 == 1 then r && b else r || b))) m
reached_by_bit b r m k = go b r (cases_eq (k % 2) 1)
  where
    go : (b r : Bool) → (k % 2 ≡ 1) ⊎ (k % 2 ≢ 1) → nat_le (k + digit (not r)) (digit b + 2 * m) ≡ nat_le (k / 2 + digit (not (if k % 2 == 1 then r && b else r || b))) m
    go true true (inl odd) = rw (eq-eqb (k % 2) 1 odd) (same_order _ _ _ _ (λ h. omega arith) (λ h. omega arith))
    go true false (inl odd) = rw (eq-eqb (k % 2) 1 odd) (same_order _ _ _ _ (λ h. omega arith) (λ h. omega arith))
    go false true (inl odd) = rw (eq-eqb (k % 2) 1 odd) (same_order _ _ _ _ (λ h. omega arith) (λ h. omega arith))
    go false false (inl odd) = rw (eq-eqb (k % 2) 1 odd) (same_order _ _ _ _ (λ h. omega arith) (λ h. omega arith))
    go true true (inr even) = rw (ne_eqb (k % 2) 1 even) (same_order _ _ _ _ (λ h. omega arith) (λ h. omega arith))
    go true false (inr even) = rw (ne_eqb (k % 2) 1 even) (same_order _ _ _ _ (λ h. omega arith) (λ h. omega arith))
    go false true (inr even) = rw (ne_eqb (k % 2) 1 even) (same_order _ _ _ _ (λ h. omega arith) (λ h. omega arith))
    go false false (inr even) = rw (ne_eqb (k % 2) 1 even) (same_order _ _ _ _ (λ h. omega arith) (λ h. omega arith))

-- whether a number is below another, by their least bits, where l says it of these
pub less_by_bit : (b c l : Bool) (m k : ℕ) → nat_le (digit b + 2 * m + digit (not l)) (digit c + 2 * k) ≡ nat_le (m + digit (not (not b && c || (not b || c) && l))) k
less_by_bit true true true m k = same_order _ _ _ _ (λ h. omega arith) (λ h. omega arith)
less_by_bit true true false m k = same_order _ _ _ _ (λ h. omega arith) (λ h. omega arith)
less_by_bit true false true m k = same_order _ _ _ _ (λ h. omega arith) (λ h. omega arith)
less_by_bit true false false m k = same_order _ _ _ _ (λ h. omega arith) (λ h. omega arith)
less_by_bit false true true m k = same_order _ _ _ _ (λ h. omega arith) (λ h. omega arith)
less_by_bit false true false m k = same_order _ _ _ _ (λ h. omega arith) (λ h. omega arith)
less_by_bit false false true m k = same_order _ _ _ _ (λ h. omega arith) (λ h. omega arith)
less_by_bit false false false m k = same_order _ _ _ _ (λ h. omega arith) (λ h. omega arith)
