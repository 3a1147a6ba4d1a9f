use Rattle.bddl_laws.proofs.Reduction.{fits_reduced_cube, fine_reduced_cube}
use Rattle.bddl_laws.proofs.constraints.reduced_cube_is_fine.Goals as goal

pub returns-clause-fits : goal.returns-clause-fits
returns-clause-fits c = fits_reduced_cube

pub returns-clause-fine : goal.returns-clause-fine
returns-clause-fine c = fine_reduced_cube
