-- What is told of a certificate is an end of the request.
use Rattle.std.proofs.Common.{ℕ, ◌≡◌, ◌<◌, true, false, List, [], Ok, inl, inr, refl}
use Rattle.bddl_model.specs.declared.certificate.Node.{Node}
use Rattle.bddl_model.specs.declared.texts.DomainText.{DomainText}
use Rattle.bddl_model.specs.declared.texts.ProblemText.{ProblemText}
use Rattle.bddl_model.specs.Bounds.{certify_bound}
use Rattle.bddl_model.specs.Certificate.{IsShared, IsSharedForm, valid}
use Rattle.bddl_model.specs.CertificateText.{CertText, ctext}
use Rattle.bddl_model.specs.Outcome.{AcceptedThen, CertifyEnds, CheckEnds, End, GameThen, RecertifyEnds, States, done}
use Rattle.bddl_model.specs.Setup.{Setup}
use Rattle.bddl_model.specs.Verdicts.{accepted_text}
use Rattle.bddl_model.specs.Win.{win}
use Rattle.request_parts.specs.Ends.{NoCertificate, closed}
use Rattle.request_parts.specs.declared.refusal.Close.TheVariants as close
use Rattle.request_parts.proofs.Certificates.{accepted_goes_on, accepted_then}
use Rattle.request_parts.proofs.Games.{game_goes_on}

module _ (d p : List ℕ) (dom : DomainText) (prob : ProblemText) (s : Setup) (states : States d p dom prob (Ok s)) where
  -- ---- of one that was looked for

  pub certified : (budget : ℕ) (nodes : List Node) → IsShared s nodes → CertText (ctext nodes) nodes → GameThen d p (CertifyEnds budget) (closed close.Yes (ctext nodes))
  certified budget nodes shared text =
      game_goes_on d p dom prob s (CertifyEnds budget) _ states (inl (ctext nodes, record { nodes = nodes; shared = shared; written = refl; read = text }, refl))

  pub not_won : (budget : ℕ) → win s.game s.first s.board s.depth ≡ false → GameThen d p (CertifyEnds budget) (closed close.NoStrategy [])
  not_won budget lost = game_goes_on d p dom prob s (CertifyEnds budget) _ states (inr (inl (lost, refl)))

  pub not_found : (budget : ℕ) → budget < certify_bound s → GameThen d p (CertifyEnds budget) (closed close.NotFound [])
  not_found budget less = game_goes_on d p dom prob s (CertifyEnds budget) _ states (inr (inr (less, refl)))

  -- ---- of one that was read

  module _ (c : List ℕ) where
    pub refused_text : (next : Setup → List Node → End → Type 0) (end : End) → AcceptedThen c NoCertificate s end → GameThen d p (AcceptedThen c next) end
    refused_text next end h = game_goes_on d p dom prob s (AcceptedThen c next) end states (accepted_then c next s end h)

    module _ (nodes : List Node) (read : CertText c nodes) (v : valid s nodes ≡ true) where
      pub accepted : win s.game s.first s.board s.depth ≡ true → GameThen d p (AcceptedThen c CheckEnds) (done accepted_text)
      accepted won = game_goes_on d p dom prob s (AcceptedThen c CheckEnds) (done accepted_text) states (accepted_goes_on c CheckEnds s nodes (done accepted_text) read v (won, refl))

      pub recertified : (shared : List Node) → IsSharedForm s nodes shared → CertText (ctext shared) shared → GameThen d p (AcceptedThen c RecertifyEnds) (done (ctext shared))
      recertified shared form text = game_goes_on d p dom prob s (AcceptedThen c RecertifyEnds) (done (ctext shared)) states (accepted_goes_on c RecertifyEnds s nodes (done (ctext shared)) read v (shared, form, text, refl))
