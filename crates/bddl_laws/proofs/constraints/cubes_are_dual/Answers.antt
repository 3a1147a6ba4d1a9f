use Rattle.bddl_laws.proofs.Duality.{value_dual, cube_is_dual}
use Rattle.bddl_laws.proofs.constraints.cubes_are_dual.Goals as goal

pub returns-clause-value : goal.returns-clause-value
returns-clause-value c = value_dual

pub returns-clause-fine : goal.returns-clause-fine
returns-clause-fine c = cube_is_dual
