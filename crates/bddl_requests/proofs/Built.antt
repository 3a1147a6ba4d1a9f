-- What is compiled of the game that two texts state.
use Rattle.std.proofs.Common.{ℕ, ◌<◌, Ok, Err, Option, List, length, inl, inr, refl}
use Rattle.bddl_model.specs.declared.texts.DomainText.{DomainText}
use Rattle.bddl_model.specs.declared.texts.ProblemText.{ProblemText}
use Rattle.bddl_model.specs.Truth.{Formula}
use Rattle.bddl_model.specs.Forms.{IsForm}
use Rattle.bddl_model.specs.FormulaText.{qtext}
use Rattle.bddl_model.specs.Qdimacs.{HasOneForm}
use Rattle.bddl_model.specs.Encodes.{Encodes}
use Rattle.bddl_model.specs.Setup.{Setup}
use Rattle.bddl_model.specs.Outcome.{done, CompileEnds, GameThen, States}
use Rattle.io_edge.specs.declared.sink.SinkEnd.{SinkEnd}
use Rattle.strategy.specs.Written.{WritesForm}
use Rattle.request_parts.specs.Ends.{Writes, content_told}
use Rattle.request_parts.specs.Stops.{stop_of_sink}
use Rattle.request_parts.specs.declared.refusal.Close.TheVariants as close
use Rattle.request_parts.proofs.Games.{game_goes_on}
use Rattle.request_parts.proofs.Stopping.{stops_cut, text_is_cut, text_is_written}

-- each text of a form is read as that form
abbrev pub AreRead : Type 0
AreRead = (form : Formula) → IsForm form → length form.clauses < 1000000000 → HasOneForm (qtext form) form

module _ (d p : List ℕ) (dom : DomainText) (prob : ProblemText) (s : Setup) (states : States d p dom prob (Ok s)) (read : AreRead) where
  form_is_an_end : (form : Formula) → Encodes form s → GameThen d p (CompileEnds d p) (done (qtext form))
  form_is_an_end form encodes = game_goes_on d p dom prob s (CompileEnds d p) _ states (
    qtext form,
    record { dom = dom; prob = prob; states = states; form = form; encodes = encodes; written = refl; read = read form encodes.proper encodes.few },
    refl,
  )

  pub form_is_written : (old new : Option (List ℕ)) (u : Unit {0}) → WritesForm s old new (Ok u) → Writes content_told (GameThen d p (CompileEnds d p)) old new (Ok close.Done)
  form_is_written old new u h = text_is_written content_told (GameThen d p (CompileEnds d p)) (qtext h.0) (form_is_an_end h.0 h.1) old new h.2

  pub form_is_cut : (old new : Option (List ℕ)) (end : SinkEnd) → WritesForm s old new (Err end) → Writes content_told (GameThen d p (CompileEnds d p)) old new (Err (stop_of_sink end))
  form_is_cut old new end (inl same) = stops_cut content_told (GameThen d p (CompileEnds d p)) old new end same
  form_is_cut old new end (inr (form, encodes, front)) = text_is_cut content_told (GameThen d p (CompileEnds d p)) (qtext form) (form_is_an_end form encodes) old new end front
