-- The digits of a trail, and the steps that they pay for.
use Rattle.std.specs.Prelude.{ℕ, zero, suc, ◌+◌, ◌*◌, ◌^◌, Bool, true, false, List, [], ◌∷◌}

-- A trail's entry before the tail is a digit: false, which counts 0, where it is an open decision, and true, which counts
-- 1, where it is any other literal.
abbrev pub Digits : Type 0
Digits = List Bool

-- the number that digits make over so many places, the greatest place first; a digit that is missing counts 0
abbrev pub digits_number : ℕ → Digits → ℕ
digits_number zero digits = 0
digits_number (suc places) [] = 0
digits_number (suc places) (true ∷ digits) = 2 ^ places + digits_number places digits
digits_number (suc places) (false ∷ digits) = digits_number places digits

-- A trail of so many entries pays for these steps: for each unit of its digits' number one for each variable, and one for
-- each entry.
unfoldable pub steps_paid : ℕ → ℕ → Digits → ℕ → ℕ
steps_paid places variables digits entries = digits_number places digits * variables + entries
