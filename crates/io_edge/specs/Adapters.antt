-- What the adapters to files and streams tell.
use Rattle.std.specs.Prelude.{ℕ, ◌+◌, ◌-◌, ◌^◌, List, Option, None, Some}

-- the most bytes that a read delivers
abbrev pub longest_read : Option ℕ → ℕ
longest_read None = 2 ^ 62 - 1
longest_read (Some max) = max + 1

-- the bytes that a stream's writer holds, where the writer tells them, and the faults so far
pub record Stream : Type 0 where
  pub contents : Option (List ℕ)
  pub faults : ℕ
