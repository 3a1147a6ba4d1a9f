use Rattle.bddl_laws.proofs.SharedGates.{circuit_gates_apart}
use Rattle.bddl_laws.proofs.circuits.shared_gates_are_apart.Goals as goal

pub returns : goal.returns
returns c = circuit_gates_apart
