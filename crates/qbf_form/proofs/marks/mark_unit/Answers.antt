use Rattle.std.proofs.Common.{arith}
use Rattle.qbf_form.proofs.FittingClauses.{literal_among}
use Rattle.qbf_form.proofs.marks.mark_unit.Goals as goal

pub set_mark-requires : goal.set_mark-requires
set_mark-requires c = c.requires _ (literal_among c.args.clause.now 0 _ (omega arith))
