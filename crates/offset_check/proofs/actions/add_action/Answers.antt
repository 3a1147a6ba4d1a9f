use Rattle.std.proofs.Common.{◌≡◌, ◌+◌, ◌++◌, length, map, ◌∙◌, sym, ap, arith}
use Rattle.std.proofs.lemmas.Grind.{common_steps}
use Rattle.std.proofs.lemmas.Result.{err_from_is_err_and}
use Rattle.bddl_model.specs.declared.check.Item.TheVariants as item
use Rattle.bddl_model.specs.Check.{action_fault, never_fault}
use Rattle.bddl_model.specs.Game.{test_atoms}
use Rattle.bddl_model.specs.Setup.{atom_of, tests_of}
use Rattle.offset_check.proofs.Faults.{last_of_six, stops_same}
use Rattle.offset_check.proofs.actions.add_action.Goals as goal
use Rattle.offset_check.proofs.actions.add_action.Goals.{After-check_fits}

-- the first five checks passed, so that the last decides
last_decides : (c : After-check_fits) → never_fault (item.Action c.args.side (length c.args.earlier.now + 1)) c.width-width.result c.height-height.result (test_atoms c.deref.result.now ++ c.deref-2.result.now)
    ≡ action_fault c.args.game.now.width c.args.game.now.height c.args.side c.args.earlier.now c.args.action.now
last_decides c =
    let width = c.width-width.result in
    let height = c.height-height.result in
    let tests = c.deref.ensures.value ∙ c.in_ok-tests.ensures ∙ ap (tests_of width height) c.as_slice-before.ensures in
    let atoms = c.deref-2.ensures.value ∙ c.in_ok-atoms.ensures ∙ ap (map (atom_of width height)) c.as_slice-effects.ensures in
    let last = last_of_six _ _ _ _ _ _
    (rw c.as_slice-before.ensures at c.in_ok-check_length.ensures)
    (rw c.as_slice-effects.ensures at c.in_ok-check_length-2.ensures)
    (rw c.as_slice.ensures at c.in_ok-check_name.ensures)
    (rw c.as_slice-before.ensures at c.in_ok-check_tests.ensures)
    (rw c.as_slice-effects.ensures at c.in_ok-check_atoms.ensures) in
    rw (tests, atoms, sym c.width-width.ensures.value, sym c.height-height.ensures.value) (sym last)

pub returns-in_err-check_fits-clause-checks : goal.returns-in_err-check_fits-clause-checks
returns-in_err-check_fits-clause-checks c =
    let end = err_from_is_err_and c.from_residual-in_err-check_fits.result c.from_residual-in_err-check_fits.ensures.1 in
    rw (end.1, end.2) (stops_same _ _ _ (last_decides (goal.at.returns-in_err-check_fits-clause-checks c).After-check_fits) c.in_err-check_fits.ensures.checks)

pub add_action-requires-clause-action : goal.add_action-requires-clause-action
add_action-requires-clause-action c = record {
  name = rw c.as_slice-2.ensures c.requires.named;
  before = grind (arith, common_steps);
  effects = grind (arith, common_steps);
  fits = rw (c.width-width.ensures.value, c.height-height.ensures.value, c.deref.ensures.value ∙ sym c.deref-3.ensures.value, c.deref-2.ensures.value ∙ sym c.deref-4.ensures.value) at c.in_ok-check_fits.ensures.fits;
}

pub returns-clause-checks : goal.returns-clause-checks
returns-clause-checks c = sym (last_decides (goal.at.returns-clause-checks c).After-check_fits) ∙ c.in_ok-check_fits.ensures.checks
