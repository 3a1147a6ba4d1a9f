-- Numbers in bits, read and written.
use Rattle.std.proofs.Common.{◌≡◌, ℕ, zero, suc, ◌≤◌, ◌<◌, ◌+◌, ◌*◌, ◌/◌, ◌%◌, ◌^◌, Bool, true, false, if◌then◌else◌, ◌⊎◌, inl, inr, ⊎_elim, refl, sym, ap, ap₂, ◌∙◌, arith, pow-suc}
use Rattle.bddl_model.specs.declared.formula.Quant.{Quant}
use Rattle.bddl_model.specs.Truth.{Assignment, assign}
use Rattle.bddl_model.specs.Layout.{bounds}
use Rattle.bddl_model.specs.Bits.{number_at}
use Rattle.bddl_model.proofs.Assignments.{SameOutside, outside_assign, assign_same}
use Rattle.bddl_model.proofs.Blocks.{not_bound}

digit_below : (b : Bool) (n p : ℕ) → n < p → (if b then 1 else 0) + 2 * n < 2 * p
digit_below true n p h = omega arith
digit_below false n p h = omega arith

pub number_below : (n v : ℕ) (a : Assignment) → number_at a v n < 2 ^ n
number_below zero v a = omega arith
number_below (suc n) v a = rw (pow-suc 2 n) (let h = digit_below (a v) (number_at a (suc v) n) (2 ^ n) (number_below n (suc v) a) in omega (arith, h))

-- the same bits
pub number_same : (n v : ℕ) (a b : Assignment) → ((w : ℕ) → v ≤ w → w < v + n → a w ≡ b w) → number_at a v n ≡ number_at b v n
number_same zero v a b h = refl
number_same (suc n) v a b h = ap₂ (λ x y. (if x then 1 else 0) + 2 * y) (h v (omega arith) (omega arith)) (number_same n (suc v) a b (λ w lo hi. h w (omega arith) (omega arith)))

-- a number that stands outside of a block is left as it was
pub number_kept : (q : Quant) (n v m w : ℕ) (a b : Assignment) → (w + m ≤ v) ⊎ (v + n ≤ w) → SameOutside (bounds q v n) a b → number_at a w m ≡ number_at b w m
number_kept q n v m w a b apart s = number_same m w a b (λ u lo hi. s u (not_bound q n v u (⊎_elim (λ l. inl (omega arith)) (λ g. inr (omega arith)) apart)))

bit : ℕ → Bool
bit zero = false
bit (suc n) = true

bit_is : (k : ℕ) → k < 2 → (if bit k then 1 else 0) ≡ k
unfolding bit
bit_is zero h = refl
bit_is (suc zero) h = refl
bit_is (suc (suc k)) h = absurd (omega arith)

-- each number that fits can be written
pub writes_number : (q : Quant) (n v k : ℕ) (a : Assignment) → k < 2 ^ n → (b : Assignment) × SameOutside (bounds q v n) a b × (number_at b v n ≡ k)
writes_number q zero v k a h = (a, (λ w o. refl), (let h' : k < 1 = h in omega arith))
writes_number q (suc n) v k a h = step (writes_number q n (suc v) (k / 2) (assign v (bit (k % 2)) a) (half (rw (pow-suc 2 n) at h)))
  where
    half : k < 2 ^ n * 2 → k / 2 < 2 ^ n
    half h = omega arith

    step : (b : Assignment) × SameOutside (bounds q (suc v) n) (assign v (bit (k % 2)) a) b × (number_at b (suc v) n ≡ k / 2) → (b : Assignment) × SameOutside (bounds q v (suc n)) a b × (number_at b v (suc n) ≡ k)
    step x =
        let here : x.0 v ≡ bit (k % 2) = sym (x.1 v (not_bound q n (suc v) v (inl (omega arith)))) ∙ assign_same v (bit (k % 2)) a in
        let d : (if x.0 v then 1 else 0) ≡ k % 2 = ap (λ t. if t then 1 else 0) here ∙ bit_is (k % 2) (omega arith) in
        (x.0, outside_assign (record { quant = q; var = record { 0 = v } }) (bounds q (suc v) n) (bit (k % 2)) a x.0 x.1, omega (arith, d, x.2))
