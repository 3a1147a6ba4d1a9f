use Rattle.std.proofs.Common.{arith}
use Rattle.bddl_model.specs.Forms.{prefix_variables}
use Rattle.qbf_form.specs.Pairs.{has_pair}
use Rattle.qbf_form.specs.Places.{place_in}
use Rattle.qbf_form.specs.TailMarks.{has_mark}
use Rattle.qbf_form.proofs.Definitions.{marked_by_three}
use Rattle.qbf_form.proofs.FittingClauses.{literal_among}
use Rattle.qbf_form.proofs.marks.mark_definition.Goals as goal

pub mark_head-requires : goal.mark_head-requires
mark_head-requires c = c.requires _ (literal_among c.args.clause.now 0 _ (omega arith))

pub mark_head-requires-in-len3 : goal.mark_head-requires-in-len3
mark_head-requires-in-len3 c =
    rw c.mark_head.ensures.len (c.requires _ (literal_among c.args.clause.now 1 _ (omega arith)))

pub mark_head-requires-in-len3-2 : goal.mark_head-requires-in-len3-2
mark_head-requires-in-len3-2 c =
    rw (c.mark_head-in-len3.ensures.len, c.mark_head.ensures.len) (c.requires _ (literal_among c.args.clause.now 2 _ (omega arith)))

pub returns-in-len3-clause-marks : goal.returns-in-len3-clause-marks
returns-in-len3-clause-marks c = λ v.
    marked_by_three (place_in (prefix_variables c.args.prefix.now)) (has_pair c.args.pairs.now) c.args.clause.now _
    (has_mark c.args.marks.now.items v) (has_mark c.mark_head.new.marks.items v) (has_mark c.mark_head-in-len3.new.marks.items v) (has_mark c.mark_head-in-len3-2.new.marks.items v) v
    c.in-len3.len_at_least c.in-len3.len_below (c.mark_head.ensures.marks v) (c.mark_head-in-len3.ensures.marks v) (c.mark_head-in-len3-2.ensures.marks v)
