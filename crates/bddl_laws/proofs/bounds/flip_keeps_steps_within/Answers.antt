use Rattle.bddl_laws.proofs.TrailDigits.{flip_raises, flip_is_paid}
use Rattle.bddl_laws.proofs.bounds.flip_keeps_steps_within.Goals as goal

pub returns : goal.returns
returns c = record { higher = flip_raises; paid = flip_is_paid }
