-- The least node at the place of each node of a certificate.
use Rattle.std.specs.Prelude.{ℕ, ◌≡◌, ◌≢◌, ◌<◌, List, length}
use Rattle.std.specs.List.{slice_index_or}
use Rattle.bddl_model.specs.declared.certificate.Node.{Node}
use Rattle.bddl_model.specs.Setup.{Setup}
use Rattle.bddl_model.specs.CertificateGraph.{links}
use Rattle.bddl_model.specs.Certificate.{place}

-- node k stands where node m does, and no node before k stands there
pub record IsLeastWith (s : Setup) (nodes : List Node) (m k : ℕ) : Type 0 where
  pub inside : k < length nodes
  pub there : place s (links nodes) k ≡ place s (links nodes) m
  pub least : (j : ℕ) → j < k → place s (links nodes) j ≢ place s (links nodes) m

-- the least node at the place of each node, in the order of nodes
pub record AreLeast (s : Setup) (nodes : List Node) (least : List ℕ) : Type 0 where
  pub len : length least ≡ length nodes
  pub each : (m : ℕ) → m < length nodes → IsLeastWith s nodes m (slice_index_or least m 0)
