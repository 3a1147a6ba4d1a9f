use Rattle.qbf_form.proofs.FittingClauses.{fitting_bound}
use Rattle.qbf_form.proofs.marks.unit_marks.Goals as goal

pub mark_unit-requires : goal.mark_unit-requires
mark_unit-requires c = λ v h. c.loop-number.invariant.room v (fitting_bound c.args.form.now c.clause.result.now v c.clause.ensures.fits h)
