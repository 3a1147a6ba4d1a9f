use Rattle.bddl_make.proofs.Checked.{large_is_fine, small_is_fine}
use Rattle.bddl_make.proofs.laws.trial_games_have_no_fault.Goals as goal

pub returns-clause-large : goal.returns-clause-large
returns-clause-large c = large_is_fine

pub returns-clause-small : goal.returns-clause-small
returns-clause-small c = small_is_fine
