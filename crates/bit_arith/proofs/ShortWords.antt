-- A word of at most sixteen wires is a number below 65,536.
use Rattle.std.proofs.Common.{ℕ, ◌≤◌, ◌^◌, List, length, arith, ap}
use Rattle.std.proofs.Math.Nat.{pow-le-pow_right}
use Rattle.std.proofs.lemmas.List.{length-map}
use Rattle.bddl_model.specs.declared.circuit.Wire.{Wire}
use Rattle.bddl_model.specs.Truth.{Assignment}
use Rattle.bddl_model.specs.Circuit.{Circuit, holds}
use Rattle.bddl_model.specs.Words.{word_bits, word_value}
use Rattle.bddl_model.proofs.Codes.{bits_below}

power_short : (n : ℕ) → n ≤ 16 → 2 ^ n ≤ 2 ^ 16
power_short n h = pow-le-pow_right {n = 2} (omega arith) h

pub short_word : (c : Circuit) (ws : List Wire) (a : Assignment) → length ws ≤ 16 → word_value c ws a ≤ 65535
short_word c ws a h =
    let below = bits_below (word_bits c ws a) in
    let same = length-map ws (λ w. holds c w a) in
    let most = power_short (length ws) h in
    omega (arith, ap (λ n. 2 ^ n) same)
