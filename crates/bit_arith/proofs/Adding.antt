-- Numbers are added digit by digit, with a carry.
use Rattle.std.proofs.Common.{◌≡◌, ℕ, zero, suc, ◌<◌, ◌+◌, ◌*◌, ◌/◌, ◌%◌, ◌^◌, Bool, true, false, List, [], ◌∷◌, ◌++◌, length, drop, get_or, ◌==◌, ⊎_elim, refl, sym, ap, ◌∙◌, subst, arith, pow-suc, add-one, eq-eqb, ne_eqb}
use Rattle.std.proofs.lemmas.Bool.{cases_eq}
use Rattle.std.proofs.Math.Nat.{add-mul-mod_self_left, mod-eq_of_lt}
use Rattle.bddl_model.specs.Words.{number_of_bits}
use Rattle.bddl_model.proofs.Codes.{bits_below}
use Rattle.bit_arith.specs.Digits.{digit}

pub number-push : (bs : List Bool) (b : Bool) → number_of_bits (bs ++ b ∷ []) ≡ number_of_bits bs + 2 ^ length bs * digit b
number-push [] true = refl
number-push [] false = refl
number-push (c ∷ bs) b = rw (number-push bs b, pow-suc 2 (length bs)) (grind arith)

-- the first bit of what is left is 0 past the end
pub number-drop : (bs : List Bool) (i : ℕ) → number_of_bits (drop i bs) ≡ digit (get_or bs i false) + 2 * number_of_bits (drop (i + 1) bs)
number-drop bs i = rw add-one (go bs i)
  where
    go : (bs : List Bool) (i : ℕ) → number_of_bits (drop i bs) ≡ digit (get_or bs i false) + 2 * number_of_bits (drop (suc i) bs)
    go [] zero = refl
    go [] (suc i) = refl
    go (b ∷ bs) zero = refl
    go (b ∷ bs) (suc i) = go bs i

pub digit_odd : (k : ℕ) → digit (k % 2 == 1) ≡ k % 2
digit_odd k = ⊎_elim (λ e. rw (eq-eqb (k % 2) 1 e) (sym e)) (λ n. rw (ne_eqb (k % 2) 1 n) (omega arith)) (cases_eq (k % 2) 1)

-- One more digit s of a sum, where c was carried and c' is now. Of the two summands m and k are left, and then m' and k / 2.
pub sum_turn : (p written total c m k s c' b m' : ℕ) → written + p * (c + m + k) ≡ total → m ≡ b + 2 * m' → s + 2 * c' ≡ b + c + k % 2 → (written + p * s) + (p * 2) * (c' + m' + k / 2) ≡ total
sum_turn p written total c m k s c' b m' h e d =
    let q : c + m + k ≡ s + 2 * (c' + m' + k / 2) = omega arith in
    let z : p * (c + m + k) ≡ p * (s + 2 * (c' + m' + k / 2)) = ap (λ n. p * n) q in
    grind (arith)

-- what is written once all digits are
pub sum_end : (bs : List Bool) (w i rest total : ℕ) → i ≡ w → length bs ≡ i → number_of_bits bs + 2 ^ i * rest ≡ total → number_of_bits bs ≡ total % 2 ^ w
sum_end bs w i rest total s l e =
    sym (ap (λ n. total % 2 ^ n) (sym s) ∙ ap (λ n. n % 2 ^ i) (sym e) ∙ add-mul-mod_self_left (number_of_bits bs) (2 ^ i) rest ∙ mod-eq_of_lt (subst (λ n. number_of_bits bs < 2 ^ n) l (bits_below bs)))
