use Rattle.std.proofs.Common.{rules, refl}
use Rattle.io_edge.proofs.Added.{added_more, added_stops}
use Rattle.game_play.proofs.Showing.{numbered_next, no_moves, all_added}
use Rattle.game_play.proofs.show.add_list.Goals as goal

pub returns-in_err-add_numbered-clause-text : goal.returns-in_err-add_numbered-clause-text
returns-in_err-add_numbered-clause-text g c =
    let next = numbered_next c.args.game.now c.args.moves.now c.loop-number.number _ _ c.loop-number-test.true refl in
    added_stops _ _ _ _ next _ _ _ _ _ _ c.loop-number.invariant.added _ c.from_residual.ensures.0 c.in_err-add_numbered.ensures.text

pub loop-number-preserved : goal.loop-number-preserved
loop-number-preserved g c =
    let next = numbered_next c.args.game.now c.args.moves.now c.loop-number.number _ _ c.loop-number-test.true refl in
    record {
      added = added_more _ _ _ _ next _ _ _ _ _ _ c.loop-number.invariant.added c.in_ok-add_numbered.ensures.text;
      counts = search rules;
    }

pub returns-clause-text : goal.returns-clause-text
returns-clause-text g c = all_added _ _ _ _ _ _ (no_moves c.args.game.now c.args.moves.now c.loop-number.number c.loop-number-test.false) c.loop-number.invariant.added
