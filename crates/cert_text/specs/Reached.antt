-- Which nodes are named.
use Rattle.std.specs.Prelude.{ℕ, ◌≡◌, ◌<◌, ◌≤◌, ◌==◌, Bool, true, false, ◌||◌, List, length, All}
use Rattle.std.specs.List.{list_any, slice_index_or}
use Rattle.bddl_model.specs.declared.certificate.Answered.{Answered}
use Rattle.bddl_model.specs.declared.certificate.Node.{Node}
use Rattle.bddl_model.specs.CertificateGraph.{links, is_named}

abbrev pub leads_to : ℕ → Answered → Bool
leads_to m a = a.next.0 == m

abbrev pub AreBelow : ℕ → List Answered → Type 0
AreBelow count all = All (λ a. a.next.0 < count) all

-- what answers name is marked too, and nothing else
abbrev pub Marks : List Answered → List Bool → List Bool → Type 0
Marks all old new = (m : ℕ) → m < length old → slice_index_or new m false ≡ (slice_index_or old m false || list_any (leads_to m) all)

-- the nodes that are named are marked
abbrev pub AreMarked : List Node → List Bool → Type 0
AreMarked nodes marks = (m : ℕ) → m < length marks → slice_index_or marks m false ≡ is_named (links nodes) m

abbrev pub AllNamed : List Node → ℕ → Type 0
AllNamed nodes n = (m : ℕ) → 1 ≤ m → m < n → is_named (links nodes) m ≡ true

abbrev pub AllMarked : List Bool → ℕ → Type 0
AllMarked marks n = (m : ℕ) → 1 ≤ m → m < n → slice_index_or marks m false ≡ true

-- the first number behind 0 that isn't marked
pub record IsFirstUnmarked (marks : List Bool) (n : ℕ) : Type 0 where
  pub later : 1 ≤ n
  pub within : n < length marks
  pub unmarked : slice_index_or marks n false ≡ false
  pub before : AllMarked marks n

-- the first node behind the root that isn't named
pub record IsFirstUnnamed (nodes : List Node) (n : ℕ) : Type 0 where
  pub later : 1 ≤ n
  pub within : n < length nodes
  pub unnamed : is_named (links nodes) n ≡ false
  pub before : AllNamed nodes n
