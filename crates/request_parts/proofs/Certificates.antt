-- The steps from a text to the certificate that it has.
use Rattle.std.proofs.Common.{◌≡◌, ◌⊎◌, ℕ, true, List, Some, inl, inr, ap, ◌∙◌}
use Rattle.bddl_model.specs.declared.certificate.Node.{Node}
use Rattle.bddl_model.specs.declared.certificate.CertFault.{CertFault}
use Rattle.bddl_model.specs.declared.certificate.CertFault.TheVariants as cert
use Rattle.bddl_model.specs.declared.certificate.CertReadFault.{CertReadFault}
use Rattle.bddl_model.specs.declared.certificate.CertReadFault.TheVariants as cert_text
use Rattle.bddl_model.specs.Certificate.{cert_fault, valid}
use Rattle.bddl_model.specs.CertificateFaults.{CertFails}
use Rattle.bddl_model.specs.CertificateText.{CertText}
use Rattle.bddl_model.specs.Notes.{cert_note, cert_text_note}
use Rattle.bddl_model.specs.Outcome.{End, refused, AcceptedThen, CertThen}
use Rattle.bddl_model.specs.Setup.{Setup}
use Rattle.request_parts.specs.Ends.{NoCertificate, Nothing, StopsAt, content_told}
use Rattle.request_parts.specs.Stops.{IsCertStopOf, IsCertTextStopOf}
use Rattle.request_parts.specs.declared.refusal.Content.{Content}
use Rattle.request_parts.specs.declared.refusal.Content.TheVariants as content
use Rattle.request_parts.specs.declared.refusal.Stop.{Stop}
use Rattle.request_parts.specs.declared.refusal.Stop.TheVariants as stop

-- a text that goes on with nothing ends so in any case
pub text_then : (bytes : List ℕ) (next : Setup → List Node → End → Type 0) (s : Setup) (end : End) → CertThen bytes Nothing end → AcceptedThen bytes next s end
text_then bytes next s end (inl h) = inl h
text_then bytes next s end (inr h) = absurd h.2

pub accepted_then : (bytes : List ℕ) (next : Setup → List Node → End → Type 0) (s : Setup) (end : End) → AcceptedThen bytes NoCertificate s end → AcceptedThen bytes next s end
accepted_then bytes next s end (inl h) = inl h
accepted_then bytes next s end (inr (nodes, read, inl h)) = inr (nodes, read, inl h)
accepted_then bytes next s end (inr (nodes, read, inr h)) = absurd h.1

pub accepted_goes_on : (bytes : List ℕ) (next : Setup → List Node → End → Type 0) (s : Setup) (nodes : List Node) (end : End) → CertText bytes nodes → valid s nodes ≡ true → next s nodes end → AcceptedThen bytes next s end
accepted_goes_on bytes next s nodes end read v h = inr (nodes, read, inr (v, h))

-- the text has a fault, or memory was wanting
pub text_stops : (bytes : List ℕ) (f : CertReadFault) (s : Stop Content) → (f ≡ cert_text.NoMemory) ⊎ CertFails bytes f → IsCertTextStopOf f s → StopsAt content_told (CertThen bytes Nothing) s
text_stops bytes f (stop.Refused (content.CertText g)) (inl none) is = absurd (g.is_found (is ∙ none))
text_stops bytes f (stop.Refused (content.CertText g)) (inr fails) is = inl (f, fails, ap (λ x. refused 6 (cert_text_note x)) is)
text_stops bytes f (stop.Refused (content.Cert g)) fails is = absurd is
text_stops bytes f (stop.Refused (content.Check g)) fails is = absurd is
text_stops bytes f (stop.Refused (content.Formula g)) fails is = absurd is
text_stops bytes f (stop.Refused (content.Text text place fault)) fails is = absurd is
text_stops bytes f stop.WriteFault fails is = absurd is
text_stops bytes f stop.NoMemory fails is = tt

-- a node has a fault, or memory was wanting
pub node_stops : (bytes : List ℕ) (setup : Setup) (nodes : List Node) (f : CertFault) (s : Stop Content) → CertText bytes nodes → (f ≡ cert.NoMemory) ⊎ (cert_fault setup nodes ≡ Some f) → IsCertStopOf f s
    → StopsAt content_told (AcceptedThen bytes NoCertificate setup) s
node_stops bytes setup nodes f (stop.Refused (content.Cert g)) read (inl none) is = absurd (g.is_found (is ∙ none))
node_stops bytes setup nodes f (stop.Refused (content.Cert g)) read (inr fails) is = inr (nodes, read, inl (f, fails, ap (λ x. refused 6 (cert_note x)) is))
node_stops bytes setup nodes f (stop.Refused (content.CertText g)) read fails is = absurd is
node_stops bytes setup nodes f (stop.Refused (content.Check g)) read fails is = absurd is
node_stops bytes setup nodes f (stop.Refused (content.Formula g)) read fails is = absurd is
node_stops bytes setup nodes f (stop.Refused (content.Text text place fault)) read fails is = absurd is
node_stops bytes setup nodes f stop.WriteFault read fails is = absurd is
node_stops bytes setup nodes f stop.NoMemory read fails is = tt
