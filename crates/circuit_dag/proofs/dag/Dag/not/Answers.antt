use Rattle.std.proofs.Common.{refl}
use Rattle.bddl_model.proofs.Growth.{opposite_held}
use Rattle.circuit_dag.proofs.dag.Dag.not.Goals as goal

pub returns-clause-value : goal.returns-clause-value
returns-clause-value c a = opposite_held c.args.self.now _ c.args.wire a refl refl
