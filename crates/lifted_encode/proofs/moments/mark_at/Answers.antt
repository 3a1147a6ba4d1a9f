use Rattle.std.proofs.Common.{◌&&◌, ◌||◌, ◌==◌, ap₂, ◌∙◌, arith}
use Rattle.bddl_model.specs.Layout.{anchor_bits}
use Rattle.bddl_model.specs.Words.{word_value}
use Rattle.bddl_model.proofs.Growth.{grows_then, grows_within}
use Rattle.bddl_model.proofs.WireWords.{word_stays, value_kept}
use Rattle.symbol_cell.specs.Pairs.{is_black, is_white}
use Rattle.symbol_cell.specs.Steps.{unit}
use Rattle.symbol_cell.proofs.Following.{stands_kept}
use Rattle.bddl_model.specs.Circuit.{holds}
use Rattle.lifted_encode.specs.Telling.{marks_of}
use Rattle.lifted_encode.proofs.Marking.{moment_turn}
use Rattle.lifted_encode.proofs.Shares.{more, share}
use Rattle.lifted_encode.proofs.Turns.{marks_kept}
use Rattle.lifted_encode.proofs.moments.mark_at.Goals as goal

pub also_mark-requires-clause-known : goal.also_mark-requires-clause-known
also_mark-requires-clause-known c = c.moments.invariant.wires

pub also_mark-requires-clause-word : goal.also_mark-requires-clause-word
also_mark-requires-clause-word c = word_stays _ c.args.dag.now c.moments.dag c.args.word.now c.moments.invariant.grows c.requires.word

pub also_mark-requires-clause-run : goal.also_mark-requires-clause-run
also_mark-requires-clause-run c = (c.requires.run.0, stands_kept c.args.game.now _ c.args.dag.now c.moments.dag c.moments.invariant.grows c.args.run.now c.requires.run.0 c.requires.run.1)

pub also_mark-requires-clause-room : goal.also_mark-requires-clause-room
also_mark-requires-clause-room c = omega (arith, c.requires.room, c.moments.invariant.grows.room, share (unit (anchor_bits c.args.game.now)) c.moments.moment c.args.count (omega arith))

pub returns-in_err-known-clause-grows : goal.returns-in_err-known-clause-grows
returns-in_err-known-clause-grows c = grows_within (grows_then c.moments.invariant.grows c.also_mark.ensures.grows) (omega (arith, share (unit (anchor_bits c.args.game.now)) c.moments.moment c.args.count (omega arith)))

pub moments-preserved : goal.moments-preserved
moments-preserved c =
    let before = c.args.dag.now in
    let dag = c.moments.dag in
    let grown = c.moments.invariant.grows in
    let u = unit (anchor_bits c.args.game.now) in
    record {
      wires = c.in_ok-known.ensures.wires;
      grows = grows_within (grows_then grown c.in_ok-known.ensures.grows) (omega (arith, more u c.moments.moment));
      black = λ a.
          let time = word_value before c.args.word.now a in
          moment_turn is_black (marks_of before c.args.run.now a) c.moments.moment time _ _ (c.moments.invariant.black a)
          (c.in_ok-known.ensures.black a
          ∙ ap₂ (λ n m. holds dag c.moments.known.black a || n == c.moments.moment && is_black m)
          (value_kept _ before dag c.args.word.now a grown c.requires.word)
          (marks_kept c.args.game.now _ before dag c.args.run.now c.requires.run.0 grown c.requires.run.1 c.moments.moment a));
      white = λ a.
          let time = word_value before c.args.word.now a in
          moment_turn is_white (marks_of before c.args.run.now a) c.moments.moment time _ _ (c.moments.invariant.white a)
          (c.in_ok-known.ensures.white a
          ∙ ap₂ (λ n m. holds dag c.moments.known.white a || n == c.moments.moment && is_white m)
          (value_kept _ before dag c.args.word.now a grown c.requires.word)
          (marks_kept c.args.game.now _ before dag c.args.run.now c.requires.run.0 grown c.requires.run.1 c.moments.moment a));
    }
