use Rattle.bddl_laws.proofs.CircuitTails.{circuit_tail, compiled_is_small, compiled_bound}
use Rattle.bddl_laws.proofs.bounds.circuit_tail_holds_the_gates.Goals as goal

pub returns : goal.returns
returns c = record { tail = circuit_tail; small = compiled_is_small; bounded = compiled_bound }
