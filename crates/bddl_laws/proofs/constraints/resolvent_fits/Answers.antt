use Rattle.bddl_laws.proofs.Resolvents.{resolvent_fits_prefix}
use Rattle.bddl_laws.proofs.constraints.resolvent_fits.Goals as goal

pub returns : goal.returns
returns c = resolvent_fits_prefix
