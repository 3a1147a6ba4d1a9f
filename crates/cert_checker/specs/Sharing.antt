-- Answers under new numbers of nodes, and the shared form as it is made.
use Rattle.std.specs.Prelude.{ℕ, ◌≡◌, ◌<◌, ◌≤◌, List, [], ◌∷◌, ◌++◌, length, map, slice_get, Some}
use Rattle.std.specs.List.{slice_index_or}
use Rattle.bddl_model.specs.declared.certificate.Answered.{Answered}
use Rattle.bddl_model.specs.declared.certificate.Node.{Node}
use Rattle.bddl_model.specs.Setup.{Setup}
use Rattle.bddl_model.specs.CertificateGraph.{links}
use Rattle.bddl_model.specs.Certificate.{place, IsLike}
use Rattle.bddl_laws.specs.BreadthFirst.{AreMade}
use Rattle.cert_checker.specs.LeastNodes.{IsLeastWith}

-- The new answer makes the same move, and names the node that stands for the old next one by its number in
-- the order, in which it was, or comes next.
pub record IsRenamed (least : List ℕ) (old new : Answered) (before after : List ℕ) : Type 0 where
  pub mv : new.mv ≡ old.mv
  pub there : slice_get after new.next.0 ≡ Some (slice_index_or least old.next.0 0)
  pub met : new.next.0 < length before → after ≡ before
  pub next : length before ≤ new.next.0 → after ≡ before ++ slice_index_or least old.next.0 0 ∷ []

-- one answer after the other
abbrev pub AreRenamed : List ℕ → List Answered → List Answered → List ℕ → List ℕ → Type 0
AreRenamed least [] [] before after = after ≡ before
AreRenamed least [] (b ∷ more) before after = ⊥
AreRenamed least (a ∷ rest) [] before after = ⊥
AreRenamed least (a ∷ rest) (b ∷ more) before after = (mid : List ℕ) × IsRenamed least a b before mid × AreRenamed least rest more mid after

-- a node is like the one whose number stands at m in the order
pub record IsLikeAt (nodes : List Node) (order : List ℕ) (m : ℕ) (node : Node) : Type 0 where
  pub number : ℕ
  pub old : Node
  pub here : slice_get order m ≡ Some number
  pub found : slice_get nodes number ≡ Some old
  pub like : IsLike node old

-- the first nodes of the shared form, and the numbers of the least nodes at all places that they name
pub record AreShared (s : Setup) (nodes : List Node) (order : List ℕ) (shared : List Node) : Type 0 where
  pub made : AreMade s (map (place s (links nodes)) order) shared
  pub least : (m k : ℕ) → slice_get order m ≡ Some k → IsLeastWith s nodes k k
  pub alike : (m : ℕ) (node : Node) → slice_get shared m ≡ Some node → IsLikeAt nodes order m node
