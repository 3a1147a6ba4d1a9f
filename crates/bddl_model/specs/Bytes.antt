-- Bytes of a text, and the number that digits spell.
use Rattle.std.specs.Prelude.{ℕ, ◌+◌, ◌-◌, ◌*◌, Bool, ◌&&◌, ◌||◌, ◌==◌, nat_le, List, [], ◌∷◌, length, Option, None, Some, if◌then◌else◌}

-- space, tab, carriage return, line feed
abbrev pub is_white : ℕ → Bool
is_white b = b == 32 || b == 9 || b == 13 || b == 10

abbrev pub is_letter : ℕ → Bool
is_letter b = (nat_le 65 b && nat_le b 90) || (nat_le 97 b && nat_le b 122)

abbrev pub is_digit : ℕ → Bool
is_digit b = nat_le 48 b && nat_le b 57

-- a letter, a digit, `_` or `-`
abbrev pub is_name_byte : ℕ → Bool
is_name_byte b = is_letter b || is_digit b || b == 95 || b == 45

-- ---- digits

-- the value of decimal digits behind those of n
abbrev pub digits_from : ℕ → List ℕ → Option ℕ
digits_from n [] = Some n
digits_from n (d ∷ ds) = if is_digit d then digits_from (10 * n + (d - 48)) ds else None

-- one to nine digits
abbrev pub digits_value : List ℕ → Option ℕ
digits_value ds = if nat_le 1 (length ds) && nat_le (length ds) 9 then digits_from 0 ds else None
