use Rattle.bddl_model.specs.Truth.{negation}
use Rattle.bddl_laws.proofs.Literals.{sign_of_literal}
use Rattle.bddl_laws.proofs.ResolvedCubes.{fine_resolved_cube}
use Rattle.bddl_laws.proofs.constraints.resolved_cube_is_fine.Goals as goal

pub returns-clause-on_signs : goal.returns-clause-on_signs
returns-clause-on_signs c = fine_resolved_cube

pub returns-clause-on_literal : goal.returns-clause-on_literal
returns-clause-on_literal c kept prefix m l left right d f g h i alone =
    fine_resolved_cube kept prefix m l.var.0 l.negated left right d f g (sign_of_literal left l f.fits.1 h) (sign_of_literal right (negation l) g.fits.1 i) alone
