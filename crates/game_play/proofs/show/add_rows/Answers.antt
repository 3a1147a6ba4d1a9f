use Rattle.std.proofs.Common.{length, rules, ap, ◌∙◌}
use Rattle.std.proofs.lemmas.List.{length-drop}
use Rattle.io_edge.proofs.Added.{added_more, added_stops}
use Rattle.game_play.proofs.Showing.{next_row, rows_fit, no_rows, all_added}
use Rattle.game_play.proofs.show.add_rows.Goals as goal

pub split_at-requires : goal.split_at-requires
split_at-requires g c = (rows_fit c.args.width c.args.height c.loop-row._row _ c.loop-row-test.true c.loop-row.invariant.size).0

pub returns-in_err-add_row-clause-text : goal.returns-in_err-add_row-clause-text
returns-in_err-add_row-clause-text g c =
    let next = next_row c.args.width c.args.height c.loop-row._row c.loop-row.left.now c.split_at.result.0.now c.split_at.result.1.now c.loop-row-test.true c.split_at.ensures.front c.split_at.ensures.back in
    added_stops _ _ _ _ next _ _ _ _ _ _ c.loop-row.invariant.added _ c.from_residual.ensures.0 c.in_err-add_row.ensures.text

pub loop-row-preserved : goal.loop-row-preserved
loop-row-preserved g c =
    let next = next_row c.args.width c.args.height c.loop-row._row c.loop-row.left.now c.split_at.result.0.now c.split_at.result.1.now c.loop-row-test.true c.split_at.ensures.front c.split_at.ensures.back in
    let fit = rows_fit c.args.width c.args.height c.loop-row._row _ c.loop-row-test.true c.loop-row.invariant.size in
    record {
      added = added_more _ _ _ _ next _ _ _ _ _ _ c.loop-row.invariant.added c.in_ok-add_row.ensures.text;
      size = ap length c.split_at.ensures.back ∙ length-drop c.args.width c.loop-row.left.now ∙ fit.1;
      counts = search rules;
    }

pub returns-clause-text : goal.returns-clause-text
returns-clause-text g c = all_added _ _ _ _ _ _ (no_rows c.args.width c.args.height c.loop-row._row c.loop-row.left.now c.loop-row-test.false) c.loop-row.invariant.added
