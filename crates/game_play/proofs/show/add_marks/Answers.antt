use Rattle.std.proofs.Common.{rules, refl}
use Rattle.bddl_model.specs.Play.{mark_byte}
use Rattle.io_edge.proofs.Added.{added_more, added_stops}
use Rattle.game_play.proofs.Showing.{map_next}
use Rattle.game_play.proofs.show.add_marks.Goals as goal

pub returns-in_err-add-clause-text : goal.returns-in_err-add-clause-text
returns-in_err-add-clause-text g c =
    let next = map_next mark_byte c.args.marks.now c.loop-mark.mark-index _ _ _ c.loop-mark-test.true refl c.mark_byte.ensures in
    added_stops _ _ _ _ next _ _ _ _ _ _ c.loop-mark.invariant.added _ c.from_residual.ensures.0 c.in_err-add.ensures.text

pub loop-mark-preserved : goal.loop-mark-preserved
loop-mark-preserved g c =
    let next = map_next mark_byte c.args.marks.now c.loop-mark.mark-index _ _ _ c.loop-mark-test.true refl c.mark_byte.ensures in
    record {
      added = added_more _ _ _ _ next _ _ _ _ _ _ c.loop-mark.invariant.added c.in_ok-add.ensures.text;
      counts = search rules;
    }
