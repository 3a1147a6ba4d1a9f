-- Nodes that are made breadth first, one for each place: the places that were met, and the nodes of the first of them.
use Rattle.std.specs.Prelude.{ℕ, ◌≡◌, ◌+◌, ◌<◌, ◌≤◌, suc, true, All, List, [], ◌∷◌, ◌++◌, if◌then◌else◌, nat_le, length, slice_get, None, Some}
use Rattle.bddl_model.specs.declared.certificate.Answered.{Answered}
use Rattle.bddl_model.specs.declared.certificate.Node.{Node}
use Rattle.bddl_model.specs.Game.{Game}
use Rattle.bddl_model.specs.Setup.{Setup}
use Rattle.bddl_model.specs.CertificateGraph.{links, Naming, namings, numbers_from}
use Rattle.bddl_model.specs.Certificate.{Place, start, behind, node_fault}

-- ---- the answers of a node

-- the answer at this place names the place behind its move, which was met, or is the next one
pub record IsNumbered (g : Game) (p : Place) (a : Answered) (old new : List Place) : Type 0 where
  pub there : slice_get new a.next.0 ≡ Some (behind g p a.mv)
  pub met : a.next.0 < length old → new ≡ old
  pub next : length old ≤ a.next.0 → new ≡ old ++ behind g p a.mv ∷ []

-- one answer after the other
abbrev pub AreNumbered : Game → Place → List Answered → List Place → List Place → Type 0
AreNumbered g p [] old new = new ≡ old
AreNumbered g p (a ∷ rest) old new = (mid : List Place) × IsNumbered g p a old mid × AreNumbered g p rest mid new

-- ---- all namings

-- the naming leads from one place to the other that it numbers
pub record Leads (s : Setup) (places : List Place) (w : Naming) : Type 0 where
  pub from : Place
  pub found : slice_get places w.from ≡ Some from
  pub to : slice_get places w.to ≡ Some (behind s.game from w.mv)
  pub later : w.from < w.to

-- the greatest number of those that were named
abbrev pub highest : ℕ → List Naming → ℕ
highest n [] = n
highest n (w ∷ ws) = highest (if nat_le w.to n then n else w.to) ws

-- of the places and of the namings so far, where the nodes from number i on are still to be made
pub record AreNamed (s : Setup) (places : List Place) (ws : List Naming) (i : ℕ) : Type 0 where
  pub root : slice_get places 0 ≡ Some (start s)
  -- a place has no more plies left than one before it, and at most one fewer than the first that waits
  pub sorted : (j k : ℕ) (p q : Place) → j ≤ k → slice_get places j ≡ Some p → slice_get places k ≡ Some q → q.left ≤ p.left
  pub near : (k : ℕ) (p q : Place) → slice_get places i ≡ Some p → slice_get places k ≡ Some q → p.left ≤ q.left + 1
  -- the namings number all places but the first, in their order
  pub leads : All (Leads s places) ws
  pub numbers : numbers_from 0 ws ≡ true
  pub last : suc (highest 0 ws) ≡ length places

-- ---- the nodes

-- these are nodes of the first of these places, without faults, and the places are all that they name
pub record AreMade (s : Setup) (places : List Place) (nodes : List Node) : Type 0 where
  pub named : AreNamed s places (namings (links nodes)) (length nodes)
  pub fine : (m : ℕ) (node : Node) (p : Place) → slice_get nodes m ≡ Some node → slice_get places m ≡ Some p → node_fault s.game m p node ≡ None
  pub count : length nodes ≤ length places
