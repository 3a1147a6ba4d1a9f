-- Where a search stands: which variables have values, and what is known of the other values.
use Rattle.std.specs.Prelude.{ℕ, suc, ◌≡◌, ◌<◌, ◌≤◌, Bool, true, false, not, List, map, drop, length, slice_index_or}
use Rattle.bddl_model.specs.declared.formula.Quant.{Quant}
use Rattle.bddl_model.specs.declared.formula.Quant.TheVariants.{Exists, All}
use Rattle.bddl_model.specs.declared.formula.Bound.{Bound}
use Rattle.bddl_model.specs.Truth.{Formula, Assignment, assign, value, clauses_true}
use Rattle.bddl_model.specs.Forms.{has_number, prefix_variables}
use Rattle.bddl_model.specs.TrailDigits.{Digits}

-- a value that decides a variable of this quantifier by itself
abbrev pub decides : Quant → Bool → Bool
decides Exists b = b
decides All b = not b

abbrev pub bound_at : List Bound → ℕ → Bound
bound_at prefix place = slice_index_or prefix place (record { quant = Exists; var = record { 0 = 0 } })

-- the value of a form behind so many variables of its prefix
abbrev pub value_from : ℕ → Formula → Assignment → Bool
value_from place f a = value (drop place f.prefix) (clauses_true f.clauses) a

-- with the other value of this variable
abbrev pub turned : ℕ → Assignment → Assignment
turned v a = assign v (not (a v)) a

-- whether the decision at this place is open: its other value is still to be tried
abbrev pub is_open : List Bool → ℕ → Bool
is_open decisions place = slice_index_or decisions place false

-- the other value of the variable at this place, which doesn't decide it
abbrev pub IsTried : Formula → Assignment → ℕ → Type 0
IsTried f a place = decides (bound_at f.prefix place).quant (value_from (suc place) f (turned (bound_at f.prefix place).var.0 a)) ≡ false

-- The first variables of the prefix have values, and each is open or its other value is tried. Only those before the tail may be open.
pub record Stands (f : Formula) (before : ℕ) (decisions : List Bool) (a : Assignment) : Type 0 where
  pub within : length decisions ≤ length f.prefix
  pub tail : (place : ℕ) → before ≤ place → is_open decisions place ≡ false
  pub tried : (place : ℕ) → place < length decisions → is_open decisions place ≡ false → IsTried f a place
  pub outside : (v : ℕ) → has_number (prefix_variables f.prefix) v ≡ false → a v ≡ false

-- the values make each rest of the form's prefix, and so the whole, have this value
pub record Settles (f : Formula) (a : Assignment) (b : Bool) : Type 0 where
  pub each : (place : ℕ) → value_from place f a ≡ b
  pub outside : (v : ℕ) → has_number (prefix_variables f.prefix) v ≡ false → a v ≡ false

-- an open decision counts 0
abbrev pub digits_of : List Bool → Digits
digits_of decisions = map not decisions

-- each variable of the form is below this number
abbrev pub HasRoom : Formula → ℕ → Type 0
HasRoom f n = (v : ℕ) → has_number (prefix_variables f.prefix) v ≡ true → v < n
