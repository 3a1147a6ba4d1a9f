use Rattle.std.proofs.Common.{◌+◌, ◌*◌, List, length, sym, subst, arith}
use Rattle.bddl_model.specs.declared.game.Atom.{Atom}
use Rattle.bddl_model.specs.Game.{actions}
use Rattle.bddl_model.specs.Growth.{HasRoom, Grows}
use Rattle.bddl_model.specs.Words.{word_value}
use Rattle.bddl_model.proofs.GrowthSums.{item_room, item_grows, item_within}
use Rattle.bddl_model.proofs.WireWords.{word_stays}
use Rattle.symbol_cell.specs.Pairs.{mark_of}
use Rattle.symbol_cell.specs.Steps.{anchor_of, place_of, unit, parts}
use Rattle.symbol_cell.proofs.Steps.{cells_stay, action_put, action_turn, all_actions}
use Rattle.symbol_cell.proofs.step.put_actions.Goals as goal

pub put_action-requires-clause-action : goal.put_action-requires-clause-action
put_action-requires-clause-action c = word_stays _ c.args.dag.now c.actions.dag c.args.action.now c.actions.invariant.grows c.requires.action

pub put_action-requires-clause-cells : goal.put_action-requires-clause-cells
put_action-requires-clause-cells c = cells_stay _ c.args.dag.now c.actions.dag c.args.cells c.actions.invariant.grows c.requires.cells

pub put_action-requires-clause-room : goal.put_action-requires-clause-room
put_action-requires-clause-room c =
    let u = unit (length c.args.cells.place.now) in
    subst (λ (effects : List Atom). HasRoom c.actions.dag (u * (length effects + 1))) (sym c.effects-effects.ensures)
    (item_room u parts (actions c.args.game.now c.args.side) c.actions.number _ c.args.dag.now c.actions.dag (omega arith) c.actions.invariant.grows c.requires.room)

pub returns-in_err-pair-clause-grows : goal.returns-in_err-pair-clause-grows
returns-in_err-pair-clause-grows c =
    let u = unit (length c.args.cells.place.now) in
    item_within u parts (actions c.args.game.now c.args.side) c.actions.number _ c.args.dag.now c.actions.dag (omega arith) c.actions.invariant.grows c.put_action.new.dag
    (subst (λ (effects : List Atom). Grows (u * (length effects + 1)) c.actions.dag c.put_action.new.dag) c.effects-effects.ensures c.put_action.ensures.grows)

pub actions-preserved : goal.actions-preserved
actions-preserved c =
    let u = unit (length c.args.cells.place.now) in
    let acts = actions c.args.game.now c.args.side in
    record {
      pair = c.in_ok-pair.ensures.pair;
      grows = item_grows u parts acts c.actions.number _ c.args.dag.now c.actions.dag (omega arith) c.actions.invariant.grows c.put_action.new.dag
          (subst (λ (effects : List Atom). Grows (u * (length effects + 1)) c.actions.dag c.put_action.new.dag) c.effects-effects.ensures c.in_ok-pair.ensures.grows);
      shown = λ a. action_turn acts c.actions.number (word_value c.args.dag.now c.args.action.now a) _ c.effects-effects.result.now (anchor_of c.args.dag.now c.args.cells a) (place_of c.args.dag.now c.args.cells a) (mark_of c.args.dag.now c.args.before a) (mark_of c.actions.dag c.actions.pair a) (mark_of c.put_action.new.dag c.in_ok-pair.pair a)
          (omega arith) c.effects-effects.ensures (c.actions.invariant.shown a)
          (action_put _ c.actions.number c.args.dag.now c.actions.dag c.put_action.new.dag c.args.action.now c.effects-effects.result.now c.args.cells c.actions.pair c.in_ok-pair.pair a c.actions.invariant.grows c.requires.action c.requires.cells (c.in_ok-pair.ensures.shown a));
    }

pub returns-clause-shown : goal.returns-clause-shown
returns-clause-shown c = λ a.
    all_actions (actions c.args.game.now c.args.side) (word_value c.args.dag.now c.args.action.now a) c.actions.number (anchor_of c.args.dag.now c.args.cells a) (place_of c.args.dag.now c.args.cells a) (mark_of c.args.dag.now c.args.before a) (mark_of c.actions.dag c.actions.pair a) (omega arith) (c.actions.invariant.shown a)
