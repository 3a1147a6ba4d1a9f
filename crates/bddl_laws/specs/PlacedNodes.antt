-- The nodes of a certificate with a place for each, as they are made.
use Rattle.std.specs.Prelude.{ℕ, ◌≡◌, All, List, slice_get, None, Some}
use Rattle.bddl_model.specs.declared.certificate.Node.{Node}
use Rattle.bddl_model.specs.Setup.{Setup}
use Rattle.bddl_model.specs.CertificateGraph.{links, namings}
use Rattle.bddl_model.specs.Certificate.{Place, start, behind, node_fault}

-- node 0 is at the start, each naming leads to the place of the node that it names, and no node has a fault at its place
pub record ArePlaced (s : Setup) (nodes : List Node) (at : ℕ → Place) : Type 0 where
  pub root : at 0 ≡ start s
  pub leads : All (λ w. behind s.game (at w.from) w.mv ≡ at w.to) (namings (links nodes))
  pub fine : (m : ℕ) (node : Node) → slice_get nodes m ≡ Some node → node_fault s.game m (at m) node ≡ None
