use Rattle.std.proofs.Common.{rules}
use Rattle.io_edge.proofs.Added.{added_more, added_stops}
use Rattle.qdimacs_io.proofs.Answering.{added_all, value_lines_next, value_lines_none}
use Rattle.qdimacs_io.proofs.answer.add_values.Goals as goal

pub returns-in_err-add_value-clause-text : goal.returns-in_err-add_value-clause-text
returns-in_err-add_value-clause-text g c =
    let next = value_lines_next c.args.prefix.now c.args.values.now c.values.i _ _ c.requires c.values-test.true in
    added_stops _ _ _ _ next _ _ _ _ _ _ c.values.invariant.added _ c.from_residual.ensures.0 c.in_err-add_value.ensures.text

pub values-preserved : goal.values-preserved
values-preserved g c =
    let next = value_lines_next c.args.prefix.now c.args.values.now c.values.i _ _ c.requires c.values-test.true in
    record {
      added = added_more _ _ _ _ next _ _ _ _ _ _ c.values.invariant.added c.in_ok-add_value.ensures.text;
      counts = search rules;
    }

pub returns-clause-text : goal.returns-clause-text
returns-clause-text g c =
    added_all _ _ (value_lines_none c.args.prefix.now c.args.values.now c.values.i c.values-test.false) _ _ _ _ c.values.invariant.added
