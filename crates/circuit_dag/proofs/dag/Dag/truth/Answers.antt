use Rattle.std.proofs.Common.{refl}
use Rattle.circuit_dag.proofs.WithoutGate.{truth_held}
use Rattle.circuit_dag.proofs.dag.Dag.truth.Goals as goal

pub returns-clause-value : goal.returns-clause-value
returns-clause-value c a = truth_held c.args.self.now _ a refl
