-- The game of a kind.
use Rattle.std.specs.Prelude.{ℕ}
use Rattle.bddl_model.specs.declared.texts.ProblemText.{ProblemText}
use Rattle.bddl_make.specs.declared.making.TrialKind.{TrialKind}
use Rattle.bddl_make.specs.declared.making.TrialKind.TheVariants.{Large, Small}
use Rattle.bddl_model.specs.Trial.{large, small}

abbrev pub trial_of : TrialKind → ℕ → ProblemText
trial_of Large number = large number
trial_of Small number = small number
