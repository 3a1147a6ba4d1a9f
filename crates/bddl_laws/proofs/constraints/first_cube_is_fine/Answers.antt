use Rattle.bddl_laws.proofs.Originals.{fine_first_cube}
use Rattle.bddl_laws.proofs.constraints.first_cube_is_fine.Goals as goal

pub returns : goal.returns
returns c = fine_first_cube
