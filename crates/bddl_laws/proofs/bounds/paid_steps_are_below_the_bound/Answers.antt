use Rattle.bddl_laws.proofs.TrailDigits.{paid_at_most, paid_below_bound}
use Rattle.bddl_laws.proofs.bounds.paid_steps_are_below_the_bound.Goals as goal

pub returns : goal.returns
returns c = record { at_most = paid_at_most; below = paid_below_bound }
