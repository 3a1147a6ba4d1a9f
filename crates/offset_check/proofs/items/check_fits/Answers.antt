use Rattle.std.proofs.Common.{◌++◌, not, ap, refl, inr}
use Rattle.bddl_model.specs.Game.{test_atoms}
use Rattle.bddl_model.specs.Check.{fault_if}
use Rattle.bddl_model.specs.declared.check.CheckFault.TheVariants as fault
use Rattle.offset_check.proofs.AnchorFound.{found, none_found}
use Rattle.offset_check.proofs.items.check_fits.Goals as goal

pub returns-in-Some-clause-checks : goal.returns-in-Some-clause-checks
returns-in-Some-clause-checks c =
    let a = c.args in
    ap (λ b. fault_if (not b) (fault.NeverOnBoard a.item)) (found a.width a.height (test_atoms a.tests.now ++ a.effects.now) (c.in-Some.field-0, c.in-Some.ensures.some))

pub returns-in-None-clause-checks : goal.returns-in-None-clause-checks
returns-in-None-clause-checks c =
    let a = c.args in
    inr (ap (λ b. fault_if (not b) (fault.NeverOnBoard a.item)) (none_found a.width a.height (test_atoms a.tests.now ++ a.effects.now) (c.in-None.ensures.none refl)))
