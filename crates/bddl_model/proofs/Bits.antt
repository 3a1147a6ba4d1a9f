-- The bits that a number needs: their number is the least exponent that serves.
use Rattle.std.proofs.Common.{◌≡◌, ℕ, zero, suc, ◌+◌, ◌^◌, ◌<◌, ◌≤◌, Bool, true, false, nat_le, if◌then◌else◌, ⊎_elim, refl, sym, subst, arith, pow-suc}
use Rattle.std.proofs.lemmas.Bool.{cases_lt, le-leb, lt-leb, leb-true, leb-false}
use Rattle.bddl_model.specs.Bits.{exponent_from, bits}

exponent_least : (more k n j : ℕ) → n ≤ 2 ^ j → k ≤ j → j ≤ k + more → ((i : ℕ) → k ≤ i → i < j → 2 ^ i < n) → exponent_from more k n ≡ j
exponent_least zero k n j e lo hi h = omega arith
exponent_least (suc more) k n j e lo hi h = ⊎_elim
    (λ lt. rw (lt-leb n (2 ^ k) (h k (omega arith) lt)) (exponent_least more (suc k) n j e (omega arith) (omega arith) (λ i a b. h i (omega arith) b)))
    (λ le. let s : k ≡ j = omega arith in rw (le-leb n (2 ^ k) (subst (λ i. n ≤ 2 ^ i) (sym s) e)) s) (cases_lt k j)

suc_below_power : (n : ℕ) → n < 2 ^ n
suc_below_power zero = omega arith
suc_below_power (suc n) = rw (pow-suc 2 n) (omega (arith, suc_below_power n))

-- an exponent that serves, and below which none does
pub bits_is : (n k : ℕ) → n ≤ 2 ^ k → ((i : ℕ) → i < k → 2 ^ i < n) → k ≡ bits n
unfolding bits
bits_is n k e h = sym (exponent_least n 0 n k e (omega arith) (⊎_elim (λ l. absurd (let a = h n l in let b = suc_below_power n in omega arith)) (λ l. omega arith) (cases_lt n k)) (λ i a b. h i b))

exponent_most : (more k n j : ℕ) → n ≤ 2 ^ j → k ≤ j → exponent_from more k n ≤ j
exponent_most zero k n j e le = le
exponent_most (suc more) k n j e le = go (nat_le n (2 ^ k)) refl (λ h. exponent_most more (suc k) n j e h)
  where
    go : (t : Bool) → nat_le n (2 ^ k) ≡ t → (suc k ≤ j → exponent_from more (suc k) n ≤ j) → (if t then k else exponent_from more (suc k) n) ≤ j
    go true q next = le
    go false q next = next (⊎_elim (λ l. l) (λ l. let z : j ≡ k = omega arith in absurd (let h = leb-false n (2 ^ k) q in let g = subst (λ i. n ≤ 2 ^ i) z e in omega arith)) (cases_lt k j))

-- no more bits than serve
pub bits_most : (n k : ℕ) → n ≤ 2 ^ k → bits n ≤ k
unfolding bits
bits_most n k h = exponent_most n 0 n k h (omega arith)

exponent_enough : (more k n : ℕ) → n ≤ 2 ^ (k + more) → n ≤ 2 ^ exponent_from more k n
exponent_enough zero k n h = subst (λ i. n ≤ 2 ^ i) (omega arith) h
exponent_enough (suc more) k n h = go (nat_le n (2 ^ k)) refl (λ i. exponent_enough more (suc k) n i)
  where
    go : (t : Bool) → nat_le n (2 ^ k) ≡ t → (n ≤ 2 ^ (suc k + more) → n ≤ 2 ^ exponent_from more (suc k) n) → n ≤ 2 ^ (if t then k else exponent_from more (suc k) n)
    go true e next = leb-true n (2 ^ k) e
    go false e next = let s : k + suc more ≡ suc k + more = omega arith in next (subst (λ i. n ≤ 2 ^ i) s h)

-- so many bits serve
pub bits_enough : (n : ℕ) → n ≤ 2 ^ bits n
unfolding bits
bits_enough n = let h = suc_below_power n in let z : n ≡ 0 + n = omega arith in exponent_enough n 0 n (subst (λ i. n ≤ 2 ^ i) z (omega arith))
