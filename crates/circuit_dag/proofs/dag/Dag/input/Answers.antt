use Rattle.std.proofs.Common.{refl}
use Rattle.circuit_dag.proofs.WithoutGate.{input_held}
use Rattle.circuit_dag.proofs.dag.Dag.input.Goals as goal

pub returns-clause-value : goal.returns-clause-value
returns-clause-value c a = input_held c.args.self.now _ a c.requires.0 c.requires.1 refl
