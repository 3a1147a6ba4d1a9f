-- The steps from two texts to the game that they state.
use Rattle.std.proofs.Common.{ℕ, ◌≡◌, ◌⊎◌, List, Result, Ok, Err, inl, inr, ap, sym, ◌∙◌}
use Rattle.bddl_model.specs.declared.texts.DomainText.{DomainText}
use Rattle.bddl_model.specs.declared.texts.ProblemText.{ProblemText}
use Rattle.bddl_model.specs.declared.check.CheckFault.{CheckFault}
use Rattle.bddl_model.specs.declared.check.CheckFault.TheVariants as check
use Rattle.bddl_model.specs.Grammar.{domain, problem}
use Rattle.bddl_model.specs.Notes.{check_note}
use Rattle.bddl_model.specs.Reading.{Reads}
use Rattle.bddl_model.specs.Check.{checked_setup}
use Rattle.bddl_model.specs.Setup.{Setup}
use Rattle.bddl_model.specs.Outcome.{End, refused, CheckThen, GameThen, ProblemThen, States}
use Rattle.request_parts.specs.Stops.{IsStopOf}
use Rattle.request_parts.specs.Ends.{Nothing, StopsAt, content_told}
use Rattle.request_parts.specs.declared.refusal.Content.{Content}
use Rattle.request_parts.specs.declared.refusal.Content.TheVariants as content
use Rattle.request_parts.specs.declared.refusal.Stop.{Stop}
use Rattle.request_parts.specs.declared.refusal.Stop.TheVariants as stop

-- ---- from one step to the next

check_then : (dom : DomainText) (prob : ProblemText) (next : Setup → End → Type 0) (end : End) → CheckThen dom prob Nothing end → CheckThen dom prob next end
check_then dom prob next end (inl h) = inl h
check_then dom prob next end (inr h) = absurd h.2

problem_then : (dom : DomainText) (p : List ℕ) (next : Setup → End → Type 0) (end : End) → ProblemThen p (λ prob. CheckThen dom prob Nothing) end → ProblemThen p (λ prob. CheckThen dom prob next) end
problem_then dom p next end (inl h) = inl h
problem_then dom p next end (inr (prob, r, h)) = inr (prob, r, check_then dom prob next end h)

-- a game that goes on with nothing ends so in any case
pub game_then : (d p : List ℕ) (next : Setup → End → Type 0) (end : End) → GameThen d p Nothing end → GameThen d p next end
game_then d p next end (inl h) = inl h
game_then d p next end (inr (dom, r, h)) = inr (dom, r, problem_then dom p next end h)

pub game_goes_on : (d p : List ℕ) (dom : DomainText) (prob : ProblemText) (s : Setup) (next : Setup → End → Type 0) (end : End) → States d p dom prob (Ok s) → next s end → GameThen d p next end
game_goes_on d p dom prob s next end (r, q, c) h = inr (dom, r, inr (prob, q, inr (s, c, h)))

-- ---- where it stops

one_fault : (f g : CheckFault) (checked : Result Setup CheckFault) → checked ≡ Err f → checked ≡ Err g → f ≡ g
one_fault f g checked h e = let same = sym h ∙ e in cc

-- the check has a fault, or memory was wanting
pub check_stops : (d p : List ℕ) (dom : DomainText) (prob : ProblemText) (f : CheckFault) (checked : Result Setup CheckFault) (s : Stop Content) → checked ≡ Err f → Reads domain d dom → Reads problem p prob
    → (checked ≡ checked_setup dom prob) ⊎ (checked ≡ Err check.NoMemory) → IsStopOf f s → StopsAt content_told (GameThen d p Nothing) s
check_stops d p dom prob f checked (stop.Refused (content.Check g)) h r q (inl e) is = inr (dom, r, inr (prob, q, inl (f, sym e ∙ h, ap (λ x. refused 2 (check_note x)) is)))
check_stops d p dom prob f checked (stop.Refused (content.Check g)) h r q (inr e) is = absurd (g.is_found (is ∙ one_fault f check.NoMemory checked h e))
check_stops d p dom prob f checked (stop.Refused (content.Text text place fault)) h r q found is = absurd is
check_stops d p dom prob f checked (stop.Refused (content.Formula fault)) h r q found is = absurd is
check_stops d p dom prob f checked (stop.Refused (content.CertText fault)) h r q found is = absurd is
check_stops d p dom prob f checked (stop.Refused (content.Cert fault)) h r q found is = absurd is
check_stops d p dom prob f checked stop.WriteFault h r q found is = absurd is
check_stops d p dom prob f checked stop.NoMemory h r q found is = tt
