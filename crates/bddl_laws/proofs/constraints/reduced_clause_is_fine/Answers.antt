use Rattle.bddl_laws.proofs.Reduction.{fits_reduced, fine_reduced}
use Rattle.bddl_laws.proofs.constraints.reduced_clause_is_fine.Goals as goal

pub returns-clause-fits : goal.returns-clause-fits
returns-clause-fits c = fits_reduced

pub returns-clause-fine : goal.returns-clause-fine
returns-clause-fine c = fine_reduced
