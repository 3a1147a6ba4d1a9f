use Rattle.bddl_laws.proofs.CertificateTexts.{has_text}
use Rattle.bddl_laws.proofs.certificates.valid_certificates_have_a_text.Goals as goal

pub returns : goal.returns
returns c = has_text
