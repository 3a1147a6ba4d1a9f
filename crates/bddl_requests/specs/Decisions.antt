-- How a request ends that decided a game or a formula.
use Rattle.std.specs.Prelude.{ℕ, ◌≡◌, Bool, List}
use Rattle.bddl_model.specs.declared.formula.Bound.{Bound}
use Rattle.bddl_model.specs.declared.formula.Verdict.{Verdict}
use Rattle.bddl_model.specs.declared.formula.Verdict.TheVariants as verdict
use Rattle.bddl_model.specs.Outcome.{End}
use Rattle.bddl_model.specs.Verdicts.{win_text, no_win_text, spent_text, answer_text}
use Rattle.request_parts.specs.Ends.{closed}
use Rattle.request_parts.specs.declared.refusal.Close.{Close}
use Rattle.request_parts.specs.declared.refusal.Close.TheVariants as close
use Rattle.strategy.specs.declared.deciding.Decided.{Decided}
use Rattle.strategy.specs.declared.deciding.Decided.TheVariants as decided

abbrev pub decided_text : Decided → List ℕ
decided_text decided.Win = win_text
decided_text decided.NoWin = no_win_text
decided_text decided.Spent = spent_text

abbrev pub decided_close : Decided → Close
decided_close decided.Win = close.Yes
decided_close decided.NoWin = close.No
decided_close decided.Spent = close.Spent

-- a trial is done, whichever way its small game was decided
abbrev pub trial_close : Decided → Close
trial_close decided.Win = close.Done
trial_close decided.NoWin = close.Done
trial_close decided.Spent = close.Spent

abbrev pub verdict_close : Verdict → Close
verdict_close verdict.True = close.Yes
verdict_close verdict.False = close.No
verdict_close verdict.Spent = close.Spent

-- the verdict is told of a formula, with these values of its first variables
abbrev pub IsTold : Verdict → ℕ → ℕ → List Bound → List Bool → End → Type 0
IsTold v variables clauses prefix values end = end ≡ closed (verdict_close v) (answer_text v variables clauses prefix values)
