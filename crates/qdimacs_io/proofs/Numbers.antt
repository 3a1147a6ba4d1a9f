-- Numbers of at most nine digits.
use Rattle.std.proofs.Common.{ℕ, ◌^◌, ◌<◌, ◌≤◌, true, ◌≡◌, nat_le, arith}
use Rattle.std.proofs.Math.Nat.{pow-le-pow_right}
use Rattle.std.proofs.lemmas.Bool.{and_parts, leb-true}
use Rattle.bddl_model.specs.Bytes.{is_digit}

pub value_small : (v i len : ℕ) → v < 10 ^ i → i < len → len ≤ 9 → v < 100000000
value_small v i len h lt le = let p : 10 ^ i ≤ 10 ^ 8 = pow-le-pow_right {n = 10} (omega arith) {i = i} {j = 8} (omega arith) in omega arith

pub digit_small : (d : ℕ) → is_digit d ≡ true → d ≤ 57
digit_small d h = leb-true d 57 (and_parts (nat_le 48 d) (nat_le d 57) h).1
