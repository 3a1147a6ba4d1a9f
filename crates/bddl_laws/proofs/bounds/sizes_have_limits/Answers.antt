use Rattle.bddl_laws.proofs.GreatestSizes.{units_within, gates_within}
use Rattle.bddl_laws.proofs.GreatestInputs.{inputs_within}
use Rattle.bddl_laws.proofs.bounds.sizes_have_limits.Goals as goal

pub returns : goal.returns
returns c = record { units = units_within; gates = gates_within; inputs = inputs_within }
