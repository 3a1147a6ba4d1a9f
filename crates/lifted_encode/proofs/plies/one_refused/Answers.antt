use Rattle.std.proofs.Common.{◌||◌, get_or, refl, ap, ◌∙◌, rules}
use Rattle.bddl_model.specs.Circuit.{holds}
use Rattle.bddl_model.specs.Layout.{anchor_bits}
use Rattle.bddl_model.specs.Words.{word_value}
use Rattle.bddl_model.proofs.GrowthSums.{item_room, item_grows, item_within}
use Rattle.bddl_model.proofs.WireWords.{word_stays, value_kept}
use Rattle.symbol_cell.specs.Runs.{place_named}
use Rattle.symbol_cell.specs.Steps.{unit}
use Rattle.symbol_cell.proofs.Following.{stands_kept}
use Rattle.lifted_encode.specs.Telling.{refused_parts, marks_of}
use Rattle.lifted_encode.proofs.Turns.{place_told, marks_kept, refused_turn, refused_kept, no_ply}
use Rattle.lifted_encode.proofs.plies.one_refused.Goals as goal

pub also_refused-requires-clause-time : goal.also_refused-requires-clause-time
also_refused-requires-clause-time c = word_stays _ c.args.dag.now c.plies.dag c.args.time.now c.plies.invariant.grows c.requires.time

pub also_refused-requires-clause-test : goal.also_refused-requires-clause-test
also_refused-requires-clause-test c = word_stays _ c.args.dag.now c.plies.dag c.args.test.now c.plies.invariant.grows c.requires.test

pub also_refused-requires-clause-run : goal.also_refused-requires-clause-run
also_refused-requires-clause-run c = (c.requires.run.0, stands_kept c.args.game.now _ c.args.dag.now c.plies.dag c.plies.invariant.grows c.args.run.now c.requires.run.0 c.requires.run.1)

pub also_refused-requires-clause-room : goal.also_refused-requires-clause-room
also_refused-requires-clause-room c = item_room (unit (anchor_bits c.args.game.now)) (refused_parts c.args.game.now) c.args.plies.now c.plies.number _ c.args.dag.now c.plies.dag c.plies-test.true c.plies.invariant.grows c.requires.room

pub returns-in_err-known : goal.returns-in_err-known
returns-in_err-known c = record {
  wire = search rules;
  value = search rules;
  grows = item_within (unit (anchor_bits c.args.game.now)) (refused_parts c.args.game.now) c.args.plies.now c.plies.number _ c.args.dag.now c.plies.dag c.plies-test.true c.plies.invariant.grows c.also_refused.new.dag c.also_refused.ensures.grows;
}

pub plies-preserved : goal.plies-preserved
plies-preserved c =
    let g = c.args.game.now in
    let r = c.args.run.now in
    let before = c.args.dag.now in
    let dag = c.plies.dag in
    let grown = c.plies.invariant.grows in
    record {
      wire = c.in_ok-known.ensures.wire;
      grows = item_grows (unit (anchor_bits g)) (refused_parts g) c.args.plies.now c.plies.number _ before dag c.plies-test.true grown c.also_refused.new.dag c.in_ok-known.ensures.grows;
      value = λ a.
          refused_turn g a (word_value before c.args.time.now a) (place_named g before a r.place) (marks_of before r a) c.plies.number c.args.plies.now no_ply c.plies-test.true (holds dag c.plies.known a) (holds c.also_refused.new.dag c.in_ok-known.known a) _ (word_value before c.args.test.now a)
          (c.plies.invariant.value a)
          (c.in_ok-known.ensures.value a
          ∙ ap (λ t. holds dag c.plies.known a || t)
          (refused_kept g a c.plies.number (get_or c.args.plies.now c.plies.number no_ply) (word_value dag c.args.time.now a) (word_value before c.args.time.now a) (place_named g dag a r.place) (place_named g before a r.place) (marks_of dag r a) (marks_of before r a)
          (value_kept _ before dag c.args.time.now a grown c.requires.time)
          (place_told g _ before dag r c.requires.run.0 grown c.requires.run.1 r.place a refl)
          (marks_kept g _ before dag r c.requires.run.0 grown c.requires.run.1 c.plies.number a) (word_value dag c.args.test.now a) (word_value before c.args.test.now a) (value_kept _ before dag c.args.test.now a grown c.requires.test)));
    }
