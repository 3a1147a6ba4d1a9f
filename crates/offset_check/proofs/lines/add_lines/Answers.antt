use Rattle.std.proofs.Common.{length, ◌∙◌, sym, arith}
use Rattle.std.proofs.lemmas.Result.{err_from_is_err_and}
use Rattle.bddl_model.specs.declared.check.CheckFault.TheVariants as fault
use Rattle.offset_check.proofs.Faults.{stops_same, passes}
use Rattle.offset_check.proofs.AddedItems.{lines_at, lines_added, lines_passed, lines_stopped, not_too_many}
use Rattle.offset_check.proofs.lines.add_lines.Goals as goal

pub returns-in_err-add_line-clause-checks : goal.returns-in_err-add_line-clause-checks
returns-in_err-add_line-clause-checks c =
    let a = c.args in
    let g = a.game.now in
    let sizes = lines_at g c.loop-i.game a.side _ c.loop-i.invariant.added in
    let is = c.as_slice.ensures ∙ c.index-lines-i.is in
    let stop = lines_stopped g.width g.height _ _ sizes.0 sizes.1 a.side a.lines.now c.loop-i.i _ _ c.loop-i-test.true is _ c.in_err-add_line.ensures.checks in
    let few = not_too_many 256 (length a.lines.now) (fault.TooManyLines a.side (length a.lines.now)) (omega (arith, c.if-found-gt256.false)) in
    let end = err_from_is_err_and c.from_residual.result c.from_residual.ensures.1 in
    rw (end.1, end.2) (stops_same _ _ _ (c.loop-i.invariant.passed ∙ sym (passes _ _ few)) stop)

pub loop-i-preserved : goal.loop-i-preserved
loop-i-preserved c =
    let a = c.args in
    let g = a.game.now in
    let before = c.loop-i.invariant.added in
    let sizes = lines_at g c.loop-i.game a.side _ before in
    let is = c.as_slice.ensures ∙ c.index-lines-i.is in
    record {
      passed = lines_passed g.width g.height _ _ sizes.0 sizes.1 a.side a.lines.now c.loop-i.i _ _ c.loop-i-test.true is c.in_ok-add_line.ensures.checks ∙ c.loop-i.invariant.passed;
      added = lines_added g c.loop-i.game c.add_line.new.game a.side a.lines.now c.loop-i.i _ _ c.loop-i-test.true is before c.in_ok-add_line.ensures.added;
    }
