-- Steps of one column or row at most.
use Rattle.std.specs.Prelude.{ℤ, pos, negsuc, ◌≡◌, ◌⊎◌}

abbrev pub IsStep : ℤ → Type 0
IsStep z = (z ≡ negsuc 0) ⊎ ((z ≡ pos 0) ⊎ (z ≡ pos 1))
