use Rattle.std.proofs.Common.{length, ◌∙◌, sym, arith}
use Rattle.std.proofs.lemmas.Result.{err_from_is_err_and}
use Rattle.bddl_model.specs.declared.check.CheckFault.TheVariants as fault
use Rattle.offset_check.proofs.Faults.{stops_same, passes}
use Rattle.offset_check.proofs.AddedItems.{actions_at, actions_added, actions_passed, actions_stopped, not_too_many}
use Rattle.offset_check.proofs.actions.add_actions.Goals as goal

pub returns-in_err-add_action-clause-checks : goal.returns-in_err-add_action-clause-checks
returns-in_err-add_action-clause-checks c =
    let a = c.args in
    let g = a.game.now in
    let sizes = actions_at g c.loop-i.game a.side _ c.loop-i.invariant.added in
    let stop = actions_stopped g.width g.height _ _ sizes.0 sizes.1 a.side a.actions.now c.loop-i.i _ _ c.loop-i-test.true c.index-actions-i.is _ c.in_err-add_action.ensures.checks in
    let few = not_too_many 8 (length a.actions.now) (fault.TooManyActions a.side (length a.actions.now)) (omega (arith, c.if-found-gt8.false)) in
    let end = err_from_is_err_and c.from_residual.result c.from_residual.ensures.1 in
    rw (end.1, end.2) (stops_same _ _ _ (c.loop-i.invariant.passed ∙ sym (passes _ _ few)) stop)

pub loop-i-preserved : goal.loop-i-preserved
loop-i-preserved c =
    let a = c.args in
    let g = a.game.now in
    let before = c.loop-i.invariant.added in
    let sizes = actions_at g c.loop-i.game a.side _ before in
    record {
      passed = actions_passed g.width g.height _ _ sizes.0 sizes.1 a.side a.actions.now c.loop-i.i _ _ c.loop-i-test.true c.index-actions-i.is c.in_ok-add_action.ensures.checks ∙ c.loop-i.invariant.passed;
      added = actions_added g c.loop-i.game c.add_action.new.game a.side a.actions.now c.loop-i.i _ _ c.loop-i-test.true c.index-actions-i.is before c.in_ok-add_action.ensures.added;
    }
