-- Where nodes are found to stand, by the answers of the nodes before them.
use Rattle.std.specs.Prelude.{ℕ, suc, ◌≡◌, ◌≢◌, ◌<◌, ◌≤◌, ◌⊎◌, List, [], ◌∷◌, ◌++◌, length, slice_get, All, Some}
use Rattle.std.specs.List.{slice_index_or}
use Rattle.bddl_model.specs.declared.certificate.Answered.{Answered}
use Rattle.bddl_model.specs.declared.certificate.Node.{Node}
use Rattle.bddl_model.specs.Game.{Game}
use Rattle.bddl_model.specs.Setup.{Setup}
use Rattle.bddl_model.specs.CertificateGraph.{answers, links}
use Rattle.bddl_model.specs.Certificate.{Place, behind, place}
use Rattle.cert_checker.specs.declared.least.Placing.{Placing}

-- the number of the node's place
abbrev pub of_node : Placing → ℕ → ℕ
of_node t m = slice_index_or t.of.items m 0

-- the least node that was found at the place of this number
abbrev pub least_at : Placing → ℕ → ℕ
least_at t n = slice_index_or t.least.items n 0

-- of the least nodes at places: this node was found too at this place, which is one of them or the next
pub record Lowers (old : List ℕ) (here node : ℕ) (new : List ℕ) : Type 0 where
  pub there : here < length new
  pub low : slice_index_or new here 0 ≤ node
  pub lower : (k : ℕ) → k < length old → slice_index_or new k 0 ≤ slice_index_or old k 0
  pub each : (k : ℕ) → k < length new → ((k < length old) × (slice_index_or new k 0 ≡ slice_index_or old k 0)) ⊎ ((k ≡ here) × (slice_index_or new k 0 ≡ node))
  pub met : here < length old → length new ≡ length old
  pub next : length old ≤ here → length new ≡ suc (length old)

-- node m was found to stand at the place
pub record Stands (old : Placing) (m : ℕ) (p : Place) (new : Placing) : Type 0 where
  pub there : slice_get new.places (of_node new m) ≡ Some p
  pub met : of_node new m < length old.places → new.places ≡ old.places
  pub next : length old.places ≤ of_node new m → new.places ≡ old.places ++ p ∷ []
  pub others : (k : ℕ) → k ≢ m → of_node new k ≡ of_node old k
  pub count : length new.of.items ≡ length old.of.items
  pub lowers : Lowers old.least.items (of_node new m) m new.least.items

-- the next nodes of answers at a place were found to stand behind them, one after the other
abbrev pub AllStand : Game → Place → List Answered → Placing → Placing → Type 0
AllStand g p [] old new = new ≡ old
AllStand g p (a ∷ rest) old new = (mid : Placing) × Stands old a.next.0 (behind g p a.mv) mid × AllStand g p rest mid new

-- ---- all nodes

-- each place is the one of the least node that was found there
pub record ArePlaces (s : Setup) (nodes : List Node) (t : Placing) : Type 0 where
  pub count : length t.of.items ≡ length nodes
  pub same : length t.least.items ≡ length t.places
  pub each : (n : ℕ) → n < length t.places → (least_at t n < length nodes) × (slice_get t.places n ≡ Some (place s (links nodes) (least_at t n)))

-- the node was found to stand at its place
pub record IsFound (s : Setup) (nodes : List Node) (t : Placing) (m : ℕ) : Type 0 where
  pub there : slice_get t.places (of_node t m) ≡ Some (place s (links nodes) m)
  pub low : least_at t (of_node t m) ≤ m

-- so were node 0 and all next nodes of the first so many nodes
pub record AreFound (s : Setup) (nodes : List Node) (t : Placing) (i : ℕ) : Type 0 where
  pub places : ArePlaces s nodes t
  pub start : IsFound s nodes t 0
  pub next : (k : ℕ) (node : Node) → k < i → slice_get nodes k ≡ Some node → All (λ a. IsFound s nodes t a.next.0) (answers node)
