-- Only plays end early.
use Rattle.std.proofs.Common.{ℕ, ◌≡◌, ◌<◌, ◌==◌, ◌||◌, ◌⊎◌, Bool, true, false, List, [], ◌∷◌, length, get_or, Option, None, Some, Result, Ok, Err, IfOk, inl, inr, refl, sym, ap, ◌∙◌, arith}
use Rattle.std.specs.Option.{unwrap_or}
use Rattle.bddl_model.specs.declared.command.Command.{Command}
use Rattle.bddl_model.specs.declared.command.Command.TheVariants.{Compile, Solve, SolveFormula, Certify, Check, Recertify, Play, Trial, FormatDomain, FormatProblem, Help, Version}
use Rattle.bddl_model.specs.Outcome.{ContentEnds, End, Results}
use Rattle.bddl_model.specs.Request.{numbers_of, opponent_in}
use Rattle.request_parts.specs.Ends.{NotCut, Tells, Writes, close_status, closed, content_told}
use Rattle.request_parts.specs.declared.refusal.Close.{Close}
use Rattle.request_parts.specs.declared.refusal.Close.TheVariants as close
use Rattle.request_parts.specs.declared.refusal.Content.{Content}
use Rattle.request_parts.specs.declared.refusal.Refusal.{Refusal}
use Rattle.request_parts.specs.declared.refusal.Stop.{Stop}
use Rattle.request_parts.specs.declared.refusal.Stop.TheVariants as stop
use Rattle.request_parts.specs.Stops.{stop_of_content}
use Rattle.bddl_requests.specs.Opponents.{CountsAt, GoesThrough, IsCounted, is_missed, is_refused}
use Rattle.bddl_requests.proofs.Answered.{told_or_cut, told_status}
use Rattle.bddl_requests.proofs.Results.{result_of}

-- ---- by the command

-- an opponent is named by a play alone, whose numbers are these
pub is_play : (c : Command) (numbers : List ℕ) (who n : ℕ) → opponent_in c numbers ≡ Some who → length numbers ≡ numbers_of c → n ≡ get_or numbers 1 n → (c ≡ Play) × (numbers ≡ who ∷ n ∷ [])
is_play Play [] who n e len at = absurd (omega arith)
is_play Play (w ∷ []) who n e len at = absurd (omega arith)
is_play Play (w ∷ m ∷ []) who n e len at =
    let w_is : w ≡ who = ap (λ q. unwrap_or q w) e in
    (refl, rw (w_is, sym at) refl)
is_play Play (w ∷ m ∷ k ∷ more) who n e len at = absurd (omega arith)
is_play Compile numbers who n e len at = absurd cc
is_play Solve numbers who n e len at = absurd cc
is_play SolveFormula numbers who n e len at = absurd cc
is_play Certify numbers who n e len at = absurd cc
is_play Check numbers who n e len at = absurd cc
is_play Recertify numbers who n e len at = absurd cc
is_play Trial numbers who n e len at = absurd cc
is_play FormatDomain numbers who n e len at = absurd cc
is_play FormatProblem numbers who n e len at = absurd cc
is_play Help numbers who n e len at = absurd cc
is_play Version numbers who n e len at = absurd cc

-- the statuses that no early end has
abbrev plain : ℕ → Bool
plain n = n == 0 || (n == 10 || (n == 20 || n == 30))

is_plain : (c : Command) (contents : List (List ℕ)) (numbers replies : List ℕ) (end : End) → opponent_in c numbers ≡ None → Results c contents numbers replies end → plain end.status ≡ true
is_plain Compile (d ∷ p ∷ []) [] replies end alone (s, h) = ap (λ (e : End). plain e.status) h.2
is_plain Solve (d ∷ p ∷ []) (n ∷ []) replies end alone (dom, prob, s, states, inl h) = ap (λ (e : End). plain e.status) h.1
is_plain Solve (d ∷ p ∷ []) (n ∷ []) replies end alone (dom, prob, s, states, inr (inl h)) = ap (λ (e : End). plain e.status) h.1
is_plain Solve (d ∷ p ∷ []) (n ∷ []) replies end alone (dom, prob, s, states, inr (inr h)) = ap (λ (e : End). plain e.status) h.1
is_plain SolveFormula (f ∷ []) (n ∷ []) replies end alone (v, c, form, q, inl (first, is, says)) = ap (λ (e : End). plain e.status) says
is_plain SolveFormula (f ∷ []) (n ∷ []) replies end alone (v, c, form, q, inr (inl (first, is, says))) = ap (λ (e : End). plain e.status) says
is_plain SolveFormula (f ∷ []) (n ∷ []) replies end alone (v, c, form, q, inr (inr h)) = ap (λ (e : End). plain e.status) h.1
is_plain Certify (d ∷ p ∷ []) (n ∷ []) replies end alone (dom, prob, s, states, inl (text, certifies, says)) = ap (λ (e : End). plain e.status) says
is_plain Certify (d ∷ p ∷ []) (n ∷ []) replies end alone (dom, prob, s, states, inr (inl h)) = ap (λ (e : End). plain e.status) h.1
is_plain Certify (d ∷ p ∷ []) (n ∷ []) replies end alone (dom, prob, s, states, inr (inr h)) = ap (λ (e : End). plain e.status) h.1
is_plain Check (d ∷ p ∷ c ∷ []) [] replies end alone (s, nodes, accepts, h) = ap (λ (e : End). plain e.status) h.1
is_plain Recertify (d ∷ p ∷ c ∷ []) [] replies end alone (s, nodes, accepts, h) = ap (λ (e : End). plain e.status) h.3
is_plain Play (d ∷ p ∷ c ∷ []) (who ∷ number ∷ []) replies end alone h = absurd cc
is_plain Trial [] (number ∷ n ∷ []) replies end alone (inl h) = ap (λ (e : End). plain e.status) h.1
is_plain Trial [] (number ∷ n ∷ []) replies end alone (inr (inl h)) = ap (λ (e : End). plain e.status) h.1
is_plain Trial [] (number ∷ n ∷ []) replies end alone (inr (inr h)) = ap (λ (e : End). plain e.status) h.1
is_plain FormatDomain (d ∷ []) [] replies end alone (tree, reads, says) = ap (λ (e : End). plain e.status) says
is_plain FormatProblem (p ∷ []) [] replies end alone (tree, reads, says) = ap (λ (e : End). plain e.status) says
is_plain Help [] [] replies end alone says = ap (λ (e : End). plain e.status) says
is_plain Version [] [] replies end alone says = ap (λ (e : End). plain e.status) says
is_plain _ _ _ replies end alone h = absurd h

-- a request that is no play isn't closed early
pub is_alone : (c : Command) (contents : List (List ℕ)) (numbers : List ℕ) (old new : Option (List ℕ)) (r : Result Close (Stop Content)) → opponent_in c numbers ≡ None → Writes content_told (ContentEnds c contents numbers []) old new r
    → (is_missed r ≡ false) × IfOk r GoesThrough
is_alone c contents numbers old new (Ok close.Gone) alone (text, e, w) =
    let early = is_plain c contents numbers [] (closed close.Gone text) alone (result_of c contents numbers [] (closed close.Gone text) refl e) in
    absurd cc
is_alone c contents numbers old new (Ok (close.BadReply number count)) alone (text, e, w) =
    let early = is_plain c contents numbers [] (closed (close.BadReply number count) text) alone (result_of c contents numbers [] (closed (close.BadReply number count) text) refl e) in
    absurd cc
is_alone c contents numbers old new (Ok close.Done) alone h = (refl, tt)
is_alone c contents numbers old new (Ok close.Yes) alone h = (refl, tt)
is_alone c contents numbers old new (Ok close.No) alone h = (refl, tt)
is_alone c contents numbers old new (Ok close.Spent) alone h = (refl, tt)
is_alone c contents numbers old new (Ok close.NoStrategy) alone h = (refl, tt)
is_alone c contents numbers old new (Ok close.NotFound) alone h = (refl, tt)
is_alone c contents numbers old new (Err s) alone h = (refl, tt)

-- what is refused wrote nothing
pub wrote_nothing : (ends : End → Type 0) (old new : Option (List ℕ)) (r : Result Close (Stop Content)) → Writes content_told ends old new r → is_refused r ≡ true → new ≡ old
wrote_nothing ends old new (Ok c) h e = absurd cc
wrote_nothing ends old new (Err (stop.Refused c)) h e = h.0
wrote_nothing ends old new (Err stop.WriteFault) h e = absurd cc
wrote_nothing ends old new (Err stop.NoMemory) h e = absurd cc

pub refused_before : (s : Stop Content) → is_refused {R = Refusal} (Err (stop_of_content s)) ≡ true → is_refused {R = Content} (Err s) ≡ true
refused_before (stop.Refused c) e = refl
refused_before stop.WriteFault e = absurd cc
refused_before stop.NoMemory e = absurd cc

-- without an opponent no reply is missed
pub none_counted : {O : Type 0} (count : O → ℕ) (who : Option ℕ) (old new : List O) (missed : Bool) → who ≡ None → missed ≡ false → CountsAt count who old new missed
none_counted count None old new missed none isnt = isnt
none_counted count (Some who) old new missed none isnt = absurd cc

-- a count that tells whether a reply was missed tells all that is said of it
pub is_counted : {O : Type 0} (count : O → ℕ) (who : Option ℕ) (old new : List O) (missed : Bool) → CountsAt count who old new missed → IsCounted count who old new missed
is_counted count None old new missed counts = ((λ e. absurd cc), λ rises. absurd rises)
is_counted count (Some who) old new true counts = ((λ e. counts), λ rises. refl)
is_counted count (Some who) old new false (a, b, at, there, same) = (
  (λ e. absurd cc),
  λ rises.
      let a_is : a ≡ rises.0 = ap (λ q. unwrap_or q a) (sym at ∙ rises.2) in
      let b_is : b ≡ rises.1 = ap (λ q. unwrap_or q b) (sym there ∙ rises.3) in
      let more : count a < count b = rw (a_is, b_is) rises.4 in
      absurd (omega (arith, same, more)),
)

-- opponents that were not asked have counted nothing
pub nothing_counted : {O : Type 0} (count : O → ℕ) (who : Option ℕ) (old : List O) → IsCounted count who old old false
nothing_counted count None old = ((λ e. absurd cc), λ rises. absurd rises)
nothing_counted count (Some who) old = (
  (λ e. absurd cc),
  λ rises.
      let same : rises.0 ≡ rises.1 = ap (λ q. unwrap_or q rises.0) (sym rises.2 ∙ rises.3) in
      let more : count rises.1 < count rises.1 = rw same at rises.4 in
      absurd (omega (arith, more)),
)

-- ---- by the status

seven : NotCut 7
seven = ((λ four. omega (arith, four)), λ five. omega (arith, five))

eight : NotCut 8
eight = ((λ four. omega (arith, four)), λ five. omega (arith, five))

closed_with_seven : (R : Type 0) (c : Close) → close_status c ≡ 7 → is_missed {R = R} (Ok c) ≡ true
closed_with_seven R close.Gone e = refl
closed_with_seven R close.Done e = absurd (omega arith)
closed_with_seven R close.Yes e = absurd (omega arith)
closed_with_seven R close.No e = absurd (omega arith)
closed_with_seven R close.Spent e = absurd (omega arith)
closed_with_seven R close.NoStrategy e = absurd (omega arith)
closed_with_seven R close.NotFound e = absurd (omega arith)
closed_with_seven R (close.BadReply number count) e = absurd (omega arith)

missed_is_seven : (R : Type 0) (c : Close) → is_missed {R = R} (Ok c) ≡ true → close_status c ≡ 7
missed_is_seven R close.Gone e = refl
missed_is_seven R close.Done e = absurd cc
missed_is_seven R close.Yes e = absurd cc
missed_is_seven R close.No e = absurd cc
missed_is_seven R close.Spent e = absurd cc
missed_is_seven R close.NoStrategy e = absurd cc
missed_is_seven R close.NotFound e = absurd cc
missed_is_seven R (close.BadReply number count) e = absurd cc

through_is_not_early : (c : Close) → GoesThrough c → (close_status c ≡ 7 → ⊥) × (close_status c ≡ 8 → ⊥)
through_is_not_early close.Gone h = absurd h
through_is_not_early (close.BadReply number count) h = absurd h
through_is_not_early close.Done h = ((λ e. omega (arith, e)), λ e. omega (arith, e))
through_is_not_early close.Yes h = ((λ e. omega (arith, e)), λ e. omega (arith, e))
through_is_not_early close.No h = ((λ e. omega (arith, e)), λ e. omega (arith, e))
through_is_not_early close.Spent h = ((λ e. omega (arith, e)), λ e. omega (arith, e))
through_is_not_early close.NoStrategy h = ((λ e. omega (arith, e)), λ e. omega (arith, e))
through_is_not_early close.NotFound h = ((λ e. omega (arith, e)), λ e. omega (arith, e))

module _ (R : Type 0) (c : Close) (text : List ℕ) (old new : Option (List ℕ)) (status : ℕ) (told : Tells (closed c text) old new status) where
  pub seven_is_missed : status ≡ 7 → is_missed {R = R} (Ok c) ≡ true
  seven_is_missed e = closed_with_seven R c (told_status (closed c text) old new status 7 seven told e).0

  pub missed_ends : is_missed {R = R} (Ok c) ≡ true → (status ≡ 7) ⊎ (status ≡ 4) ⊎ (status ≡ 5)
  missed_ends e = told_or_cut (closed c text) old new status 7 told (missed_is_seven R c e)

  pub never_early : GoesThrough c → (status ≡ 7 → ⊥) × (status ≡ 8 → ⊥)
  never_early through =
      let never = through_is_not_early c through in
      ((λ e. never.0 (told_status (closed c text) old new status 7 seven told e).0), λ e. never.1 (told_status (closed c text) old new status 8 eight told e).0)
