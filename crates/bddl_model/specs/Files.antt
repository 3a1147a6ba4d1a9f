-- Files by name.
use Rattle.std.specs.Prelude.{ℕ, List, Option, None, Some}
use Rattle.std.specs.Ordering.{nat_cmp}
use Rattle.std.specs.Cmp.Lexicographic.{slice_cmp}
use Rattle.std.specs.FinMap.{FinMap, get}

abbrev pub Files : Type 0
Files = FinMap (slice_cmp nat_cmp) (List ℕ)

-- the named file, where files are told and it is among them
abbrev pub file_at : Option Files → List ℕ → Option (List ℕ)
file_at None name = None
file_at (Some files) name = get files name
