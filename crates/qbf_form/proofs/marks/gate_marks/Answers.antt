use Rattle.qbf_form.proofs.FittingClauses.{fitting_bound}
use Rattle.qbf_form.proofs.marks.gate_marks.Goals as goal

pub mark_definition-requires : goal.mark_definition-requires
mark_definition-requires c = λ v h. c.loop-number.invariant.room v (fitting_bound c.args.form.now c.clause.result.now v c.clause.ensures.fits h)
