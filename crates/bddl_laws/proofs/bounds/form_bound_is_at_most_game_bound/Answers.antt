use Rattle.bddl_laws.proofs.FormBounds.{small_form_bound}
use Rattle.bddl_laws.proofs.bounds.form_bound_is_at_most_game_bound.Goals as goal

pub returns : goal.returns
returns c = small_form_bound
