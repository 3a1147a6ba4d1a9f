-- How many bits a number needs, and the number that bits hold.
use Rattle.std.specs.Prelude.{ℕ, zero, suc, ◌+◌, ◌*◌, ◌^◌, nat_le, if◌then◌else◌}
use Rattle.bddl_model.specs.Truth.{Assignment}

-- the least of so many exponents from k on whose power of two is at least n
abbrev pub exponent_from : ℕ → ℕ → ℕ → ℕ
exponent_from zero k n = k
exponent_from (suc more) k n = if nat_le n (2 ^ k) then k else exponent_from more (suc k) n

-- the least k with 2 ^ k at least n
unfoldable pub bits : ℕ → ℕ
bits n = exponent_from n 0 n

-- the number of n variables from v on, least bit first
abbrev pub number_at : Assignment → ℕ → ℕ → ℕ
number_at a v zero = 0
number_at a v (suc n) = (if a v then 1 else 0) + 2 * number_at a (suc v) n
