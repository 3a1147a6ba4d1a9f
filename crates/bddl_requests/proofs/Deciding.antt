-- What is told of a game or a formula that was decided is an end of the request.
use Rattle.std.proofs.Common.{ℕ, suc, ◌≡◌, ◌<◌, ◌≤◌, Bool, true, false, List, [], ◌∷◌, length, Option, Result, Ok, Err, inl, inr, refl, ap, subst, arith, if◌then◌else◌}
use Rattle.bddl_model.specs.declared.formula.Quant.{Quant}
use Rattle.bddl_model.specs.declared.formula.Quant.TheVariants as quant
use Rattle.bddl_model.specs.declared.formula.Bound.{Bound}
use Rattle.bddl_model.specs.declared.formula.Verdict.TheVariants as verdict
use Rattle.bddl_model.specs.declared.memory.NoMemory.{NoMemory}
use Rattle.bddl_model.specs.declared.texts.DomainText.{DomainText}
use Rattle.bddl_model.specs.declared.texts.ProblemText.{ProblemText}
use Rattle.bddl_model.specs.Bounds.{bound, game_bound}
use Rattle.bddl_model.specs.Fine.{first_block}
use Rattle.bddl_model.specs.FormulaText.{same_quant}
use Rattle.bddl_model.specs.Outcome.{End, FormulaSolveEnds, FormulaThen, GameThen, SmallEnds, SolveEnds, States, TrialEnds}
use Rattle.bddl_model.specs.Qdimacs.{Qdimacs}
use Rattle.bddl_model.specs.Setup.{Setup, setup_of}
use Rattle.bddl_model.specs.Trial.{large, occupying, small}
use Rattle.bddl_model.specs.Truth.{Formula}
use Rattle.bddl_model.specs.Verdicts.{IsValue, trial_text}
use Rattle.bddl_model.specs.Win.{win}
use Rattle.strategy.specs.declared.deciding.Decided.{Decided}
use Rattle.strategy.specs.declared.deciding.Decided.TheVariants as decided
use Rattle.request_parts.specs.Ends.{CutShort, Writes, closed, content_told}
use Rattle.request_parts.specs.declared.refusal.Close.{Close}
use Rattle.request_parts.specs.declared.refusal.Close.TheVariants as close
use Rattle.request_parts.specs.declared.refusal.Content.{Content}
use Rattle.request_parts.specs.declared.refusal.Stop.{Stop}
use Rattle.request_parts.specs.declared.refusal.Stop.TheVariants as stop
use Rattle.request_parts.proofs.Formulas.{formula_goes_on}
use Rattle.request_parts.proofs.Games.{game_goes_on}
use Rattle.bddl_requests.specs.Decisions.{IsTold, decided_close, decided_text, trial_close}

-- ---- games

module _ (s : Setup) (budget : ℕ) (r : Result Decided NoMemory)
    (won : r ≡ Ok decided.Win → win s.game s.first s.board s.depth ≡ true)
    (not_won : r ≡ Ok decided.NoWin → win s.game s.first s.board s.depth ≡ false)
    (spent : r ≡ Ok decided.Spent → budget < game_bound s) where
  decided_is_an_end : (d : Decided) → r ≡ Ok d → SolveEnds budget s (closed (decided_close d) (decided_text d))
  decided_is_an_end decided.Win e = inl (won e, refl)
  decided_is_an_end decided.NoWin e = inr (inl (not_won e, refl))
  decided_is_an_end decided.Spent e = inr (inr (spent e, refl))

  pub game_is_decided : (d p : List ℕ) (dom : DomainText) (prob : ProblemText) → States d p dom prob (Ok s) → (found : Decided) → r ≡ Ok found
      → GameThen d p (SolveEnds budget) (closed (decided_close found) (decided_text found))
  game_is_decided d p dom prob states found e = game_goes_on d p dom prob s (SolveEnds budget) _ states (decided_is_an_end found e)

-- a trial tells how its small game was decided
pub trial_is_decided : (number budget : ℕ) (big s : Setup) → big ≡ setup_of occupying (large number) → s ≡ setup_of occupying (small number) → (r : Result Decided NoMemory)
    → (r ≡ Ok decided.Win → win s.game s.first s.board s.depth ≡ true)
    → (r ≡ Ok decided.NoWin → win s.game s.first s.board s.depth ≡ false)
    → (r ≡ Ok decided.Spent → budget < game_bound s)
    → (d : Decided) → r ≡ Ok d → (text : List ℕ) → text ≡ trial_text big s (decided_text d) → TrialEnds number budget (closed (trial_close d) text)
trial_is_decided number budget big s b e r won not_won spent d found text told =
    subst (λ b. SmallEnds b (setup_of occupying (small number)) budget (closed (trial_close d) text)) b (subst (λ t. SmallEnds big t budget (closed (trial_close d) text)) e (ends d found told))
  where
    ends : (d : Decided) → r ≡ Ok d → text ≡ trial_text big s (decided_text d) → SmallEnds big s budget (closed (trial_close d) text)
    ends decided.Win found told = inl (won found, ap (λ t. closed close.Done t) told)
    ends decided.NoWin found told = inr (inl (not_won found, ap (λ t. closed close.Done t) told))
    ends decided.Spent found told = inr (inr (spent found, ap (λ t. closed close.Spent t) told))

-- ---- formulas

-- no block has more variables than its prefix
pub block_within : (q : Quant) (prefix : List Bound) → first_block q prefix ≤ length prefix
block_within q [] = omega arith
block_within q (b ∷ bs) = at (same_quant b.quant q) (block_within q bs)
  where
    at : (same : Bool) → first_block q bs ≤ length bs → (if same then suc (first_block q bs) else 0) ≤ suc (length bs)
    at true h = omega arith
    at false h = omega arith

-- what is written in one way is written in more
pub writes_in : (ends more : End → Type 0) (old new : Option (List ℕ)) (r : Result Close (Stop Content)) → ((end : End) → ends end → more end) → Writes content_told ends old new r → Writes content_told more old new r
writes_in ends more old new (Ok c) wider (text, e, w) = (text, wider (closed c text) e, w)
writes_in ends more old new (Err (stop.Refused x)) wider h = (h.0, wider (content_told x) h.1)
writes_in ends more old new (Err stop.WriteFault) wider h = cut ends more old new wider h
  where
    cut : (ends more : End → Type 0) (old new : Option (List ℕ)) → ((end : End) → ends end → more end) → CutShort ends old new → CutShort more old new
    cut ends more old new wider (inl same) = inl same
    cut ends more old new wider (inr (end, e, w)) = inr (end, wider end e, w)
writes_in ends more old new (Err stop.NoMemory) wider (inl same) = inl same
writes_in ends more old new (Err stop.NoMemory) wider (inr (end, e, w)) = inr (end, wider end e, w)

module _ (bytes : List ℕ) (budget variables clauses : ℕ) (form : Formula) (read : Qdimacs bytes variables clauses form) where
  pub true_is_an_end : (first : List Bool) → IsValue form quant.Exists true first → (end : End) → IsTold verdict.True variables clauses form.prefix first end → FormulaThen bytes (FormulaSolveEnds budget) end
  true_is_an_end first value end told = formula_goes_on bytes variables clauses form (FormulaSolveEnds budget) end read (inl (first, value, told))

  pub false_is_an_end : (first : List Bool) → IsValue form quant.All false first → (end : End) → IsTold verdict.False variables clauses form.prefix first end → FormulaThen bytes (FormulaSolveEnds budget) end
  false_is_an_end first value end told = formula_goes_on bytes variables clauses form (FormulaSolveEnds budget) end read (inr (inl (first, value, told)))

  pub spent_is_an_end : budget < bound form → (end : End) → IsTold verdict.Spent variables clauses form.prefix [] end → FormulaThen bytes (FormulaSolveEnds budget) end
  spent_is_an_end less end told = formula_goes_on bytes variables clauses form (FormulaSolveEnds budget) end read (inr (inr (less, told)))
