-- The digit that a bit is.
use Rattle.std.specs.Prelude.{ℕ, Bool, if◌then◌else◌}

abbrev pub digit : Bool → ℕ
digit b = if b then 1 else 0
