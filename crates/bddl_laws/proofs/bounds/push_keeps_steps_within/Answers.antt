use Rattle.bddl_laws.proofs.TrailDigits.{push_never_lowers, push_is_paid}
use Rattle.bddl_laws.proofs.bounds.push_keeps_steps_within.Goals as goal

pub returns : goal.returns
returns c = record { never_lower = push_never_lowers; paid = push_is_paid }
