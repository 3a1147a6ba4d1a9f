-- Numbers that are read from bits and written in bits.
use Rattle.std.proofs.Common.{◌≡◌, ℕ, suc, ◌+◌, ◌-◌, ◌/◌, ◌%◌, ◌^◌, ◌<◌, ◌≤◌, Bool, ◌==◌, List, [], ◌∷◌, ◌++◌, length, sym, ap, ◌∙◌, arith, append_assoc}
use Rattle.std.proofs.Math.Nat.{pow-le-pow_right}
use Rattle.bddl_model.specs.Words.{number_of_bits}
use Rattle.bddl_model.specs.Codes.{number_bits}
use Rattle.bddl_model.proofs.Codes.{bits_below}

pub short_number : (bs : List Bool) → length bs ≤ 31 → number_of_bits bs < 2 ^ 31
short_number bs h =
    let below = bits_below bs in
    let most = pow-le-pow_right {n = 2} (omega arith) h in
    omega arith

-- one bit more is written
pub bits_turn : (n i number rest : ℕ) (done now : List Bool) → i < n → done ++ number_bits (n - i) rest ≡ number_bits n number → now ≡ done ++ (rest % 2 == 1) ∷ []
    → now ++ number_bits (n - (i + 1)) (rest / 2) ≡ number_bits n number
bits_turn n i number rest done now lt h e =
    let left : n - i ≡ suc (n - (i + 1)) = omega arith in
    ap (λ l. l ++ number_bits (n - (i + 1)) (rest / 2)) e
    ∙ append_assoc done ((rest % 2 == 1) ∷ []) (number_bits (n - (i + 1)) (rest / 2))
    ∙ sym (ap (λ k. done ++ number_bits k rest) left)
    ∙ h
