use Rattle.bddl_laws.proofs.PlacedNodes.{valid_linked, valid_places}
use Rattle.bddl_laws.proofs.CertificateWins.{placed_win}
use Rattle.bddl_model.specs.Certificate.{place}
use Rattle.bddl_model.specs.CertificateGraph.{links}
use Rattle.bddl_laws.proofs.certificates.valid_certificates_win.Goals as goal

pub returns : goal.returns
returns c = λ s nodes h. placed_win s nodes (place s (links nodes)) (valid_linked s nodes h) (valid_places s nodes h)
