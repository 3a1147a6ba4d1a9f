-- The steps from a text to its form.
use Rattle.std.proofs.Common.{ℕ, ◌≡◌, ◌⊎◌, List, inl, inr, ap, ◌∙◌}
use Rattle.bddl_model.specs.declared.fault.QFault.{QFault}
use Rattle.bddl_model.specs.declared.fault.QFault.TheVariants as formula
use Rattle.bddl_model.specs.FormulaFaults.{QdimacsFails}
use Rattle.bddl_model.specs.Notes.{formula_note}
use Rattle.bddl_model.specs.Outcome.{End, refused, FormulaThen}
use Rattle.bddl_model.specs.Qdimacs.{Qdimacs}
use Rattle.bddl_model.specs.Truth.{Formula}
use Rattle.request_parts.specs.Ends.{NoFormula, StopsAt, content_told}
use Rattle.request_parts.specs.Stops.{IsFormulaStopOf}
use Rattle.request_parts.specs.declared.refusal.Content.{Content}
use Rattle.request_parts.specs.declared.refusal.Content.TheVariants as content
use Rattle.request_parts.specs.declared.refusal.Stop.{Stop}
use Rattle.request_parts.specs.declared.refusal.Stop.TheVariants as stop

-- a text that goes on with nothing ends so in any case
pub formula_then : (bytes : List ℕ) (next : ℕ → ℕ → Formula → End → Type 0) (end : End) → FormulaThen bytes NoFormula end → FormulaThen bytes next end
formula_then bytes next end (inl h) = inl h
formula_then bytes next end (inr h) = absurd h.4

pub formula_goes_on : (bytes : List ℕ) (variables clauses : ℕ) (form : Formula) (next : ℕ → ℕ → Formula → End → Type 0) (end : End) → Qdimacs bytes variables clauses form → next variables clauses form end → FormulaThen bytes next end
formula_goes_on bytes variables clauses form next end read h = inr (variables, clauses, form, read, h)

-- the text has a fault, or memory was wanting
pub formula_stops : (bytes : List ℕ) (f : QFault) (s : Stop Content) → (f ≡ formula.NoMemory) ⊎ QdimacsFails bytes f → IsFormulaStopOf f s → StopsAt content_told (FormulaThen bytes NoFormula) s
formula_stops bytes f (stop.Refused (content.Formula g)) (inl none) is = absurd (g.is_found (is ∙ none))
formula_stops bytes f (stop.Refused (content.Formula g)) (inr fails) is = inl (f, fails, ap (λ x. refused 2 (formula_note x)) is)
formula_stops bytes f (stop.Refused (content.Check g)) fails is = absurd is
formula_stops bytes f (stop.Refused (content.Text text place fault)) fails is = absurd is
formula_stops bytes f (stop.Refused (content.CertText g)) fails is = absurd is
formula_stops bytes f (stop.Refused (content.Cert g)) fails is = absurd is
formula_stops bytes f stop.WriteFault fails is = absurd is
formula_stops bytes f stop.NoMemory fails is = tt
