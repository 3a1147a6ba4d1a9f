-- Sets of numbers below a limit, as tests and as tables of marks.
use Rattle.std.specs.Prelude.{ℕ, ◌≡◌, ◌<◌, ◌+◌, ◌*◌, Bool, false, if◌then◌else◌, List, [], ◌∷◌, map, length}
use Rattle.std.specs.List.{range_with_len}
use Rattle.bddl_model.specs.declared.formula.Lit.{Lit}
use Rattle.bddl_model.specs.Forms.{has_number}

abbrev pub no_mark : ℕ → Bool
no_mark v = false

-- what a test says of the numbers below n
abbrev pub table : ℕ → (ℕ → Bool) → List Bool
table n test = map test (range_with_len 0 n)

abbrev pub AllBelow : ℕ → List ℕ → Type 0
AllBelow n [] = Unit {0}
AllBelow n (v ∷ vs) = (v < n) × AllBelow n vs

-- ---- literals as numbers

abbrev pub literal_number : Lit → ℕ
literal_number l = 2 * l.var.0 + (if l.negated then 1 else 0)

abbrev pub literal_numbers : List Lit → List ℕ
literal_numbers ls = map literal_number ls

-- the literals are marked, and no others
pub record AreMarked (literals : List Lit) (marks : List Bool) : Type 0 where
  pub marked : marks ≡ table (length marks) (has_number (literal_numbers literals))
  pub within : AllBelow (length marks) (literal_numbers literals)
