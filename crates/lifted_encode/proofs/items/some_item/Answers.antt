use Rattle.std.proofs.Common.{◌+◌, ◌*◌, List, length, sym, subst, ap, ◌∙◌, rules, arith}
use Rattle.std.specs.List.{sum_by}
use Rattle.std.proofs.lemmas.List.{take_all}
use Rattle.bddl_model.specs.declared.game.Test.{Test}
use Rattle.bddl_model.specs.Circuit.{holds}
use Rattle.bddl_model.specs.Growth.{HasRoom, Grows}
use Rattle.bddl_model.specs.Words.{word_value}
use Rattle.bddl_model.proofs.GrowthSums.{item_room, item_grows, item_within}
use Rattle.bddl_model.proofs.WireWords.{word_stays, value_kept}
use Rattle.move_code.proofs.Ranges.{rect_counts_from_one}
use Rattle.symbol_cell.specs.Steps.{unit}
use Rattle.lifted_encode.specs.Asking.{question, here_of}
use Rattle.lifted_encode.specs.Chosen.{Item, items_of, item_parts}
use Rattle.lifted_encode.proofs.Meeting.{asked_stays, question_kept, spot_stays, here_kept}
use Rattle.lifted_encode.proofs.Choosing.{few_tests, item_turn, all_tried, also_kept}
use Rattle.lifted_encode.proofs.items.some_item.Goals as goal

pub also_chosen-requires-clause-word : goal.also_chosen-requires-clause-word
also_chosen-requires-clause-word c = word_stays _ c.args.dag.now c.items.dag c.args.word.now c.items.invariant.grows c.requires.word

pub also_chosen-requires-clause-rect : goal.also_chosen-requires-clause-rect
also_chosen-requires-clause-rect c = rect_counts_from_one _ _ _ _ c.rect-rect.ensures

pub also_chosen-requires-clause-few : goal.also_chosen-requires-clause-few
also_chosen-requires-clause-few c = let few = few_tests c.args.game.now c.args.items c.items.number c.keeps_the_limits.ensures (omega arith) in omega (arith, few, ap length c.tests-tests.ensures)

pub also_chosen-requires-clause-asked : goal.also_chosen-requires-clause-asked
also_chosen-requires-clause-asked c = asked_stays _ c.args.dag.now c.items.dag c.items.invariant.grows c.args.asked c.requires.asked

pub also_chosen-requires-clause-spot : goal.also_chosen-requires-clause-spot
also_chosen-requires-clause-spot c = spot_stays _ c.args.dag.now c.items.dag c.items.invariant.grows c.args.spot c.requires.spot

pub also_chosen-requires-clause-room : goal.also_chosen-requires-clause-room
also_chosen-requires-clause-room c =
    let u = unit (length c.args.spot.cells.place.now) in
    subst (λ (tests : List Test). HasRoom c.items.dag (u * (length tests + 1))) (sym c.tests-tests.ensures)
    (item_room u item_parts (items_of c.args.game.now c.args.items) c.items.number _ c.args.dag.now c.items.dag (omega arith) c.items.invariant.grows c.requires.room)

pub returns-in_err-known : goal.returns-in_err-known
returns-in_err-known c =
    let u = unit (length c.args.spot.cells.place.now) in
    record {
      wire = search rules;
      value = search rules;
      grows = item_within u item_parts (items_of c.args.game.now c.args.items) c.items.number _ c.args.dag.now c.items.dag (omega arith) c.items.invariant.grows c.also_chosen.new.dag
          (subst (λ (tests : List Test). Grows (u * (length tests + 1)) c.items.dag c.also_chosen.new.dag) c.tests-tests.ensures c.also_chosen.ensures.grows);
    }

pub items-preserved : goal.items-preserved
items-preserved c =
    let u = unit (length c.args.spot.cells.place.now) in
    let items = items_of c.args.game.now c.args.items in
    let before = c.args.dag.now in
    let grown = c.items.invariant.grows in
    record {
      wire = c.in_ok-known.ensures.wire;
      grows = item_grows u item_parts items c.items.number _ before c.items.dag (omega arith) grown c.also_chosen.new.dag
          (subst (λ (tests : List Test). Grows (u * (length tests + 1)) c.items.dag c.also_chosen.new.dag) c.tests-tests.ensures c.in_ok-known.ensures.grows);
      value = λ a. item_turn c.args.game.now items (word_value before c.args.word.now a) (question before c.args.asked a) (here_of before c.args.spot a) c.items.number _ c.rect-rect.result _ _ (omega arith) c.rect-rect.ensures
          (c.items.invariant.value a)
          (also_kept c.items.number _ c.tests-tests.result.now _ c.rect-rect.result (holds c.items.dag c.items.known a) _ c.tests-tests.ensures
          (value_kept _ before c.items.dag c.args.word.now a grown c.requires.word)
          (question_kept _ before c.items.dag grown c.args.asked a c.requires.asked)
          (here_kept _ before c.items.dag grown c.args.spot a c.requires.spot)
          (c.in_ok-known.ensures.value a));
    }

pub returns : goal.returns
returns c = record {
  wire = c.items.invariant.wire;
  value = λ a. c.items.invariant.value a ∙ all_tried c.args.game.now (items_of c.args.game.now c.args.items) (word_value c.args.dag.now c.args.word.now a) (question c.args.dag.now c.args.asked a) (here_of c.args.dag.now c.args.spot a) c.items.number (omega arith);
  grows =
      let items = items_of c.args.game.now c.args.items in
      subst (λ (l : List Item). Grows (unit (length c.args.spot.cells.place.now) * sum_by item_parts l) c.args.dag.now c.items.dag) (take_all c.items.number items (omega arith)) c.items.invariant.grows;
}
