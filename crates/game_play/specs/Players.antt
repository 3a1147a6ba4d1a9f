-- What players keep of a play, and what is read of a line that was typed.
use Rattle.std.specs.Prelude.{ℕ, ◌&&◌, if◌then◌else◌, nat_le, List, [], length, Option, None}
use Rattle.bddl_model.specs.Bytes.{digits_from}

-- the number of the last start, and the numbers that were answered since then
pub record SaidState : Type 0 where
  pub began : ℕ
  pub numbers : List ℕ

-- before the first start, and after a start with 0
abbrev pub nothing_said : SaidState
nothing_said = record { began = 0; numbers = [] }

-- the number on a line that was typed: one to 19 digits
abbrev pub typed_number : List ℕ → Option ℕ
typed_number line = if nat_le 1 (length line) && nat_le (length line) 19 then digits_from 0 line else None
