-- The place of each variable of a prefix, in a table by variable.
use Rattle.std.specs.Prelude.{ℕ, suc, ◌≡◌, ◌==◌, List, [], ◌∷◌, if◌then◌else◌, slice_index_or}
use Rattle.bddl_model.specs.declared.formula.Bound.{Bound}
use Rattle.bddl_model.specs.Forms.{greatest_variables, prefix_variables, AllInRange, AllApart}

-- the place of v, where the first of these has place n; 0 where it has none
abbrev pub place_from : ℕ → List ℕ → ℕ → ℕ
place_from n [] v = 0
place_from n (w ∷ ws) v = if w == v then n else place_from (suc n) ws v

abbrev pub place_in : List ℕ → ℕ → ℕ
place_in vs v = place_from 1 vs v

-- variables in range, each bound once, and the table of their places
pub record KeepsPlaces (bounds : List Bound) (table : List ℕ) : Type 0 where
  pub in_range : AllInRange greatest_variables (prefix_variables bounds)
  pub apart : AllApart (prefix_variables bounds)
  pub places : (v : ℕ) → slice_index_or table v 0 ≡ place_in (prefix_variables bounds) v
