use Rattle.std.proofs.Common.{◌≡◌, ◌≤◌, length, take, arith}
use Rattle.std.proofs.lemmas.List.{length-take-le}
use Rattle.bddl_lexer.proofs.PlaceLaws.{column-le, line-after_feed, line-after_other, column-after_feed, column-after_other}
use Rattle.bddl_lexer.proofs.places.place_of.Goals as goal
use Rattle.bddl_lexer.proofs.places.place_of.Goals.{then-b-eq10, else-b-eq10}

pub overflow_add-column : goal.overflow_add-column
overflow_add-column c =
    let front = take c.args.at c.args.bytes.now in
    let size : length front ≡ c.args.at = length-take-le c.args.at c.args.bytes.now c.requires.within in
    let before_end : c.loop-b.b-index ≤ length front = omega arith in
    omega (arith, column-le front c.loop-b.b-index before_end)

pub loop-b-preserved : goal.loop-b-preserved
loop-b-preserved c =
    let front = take c.args.at c.args.bytes.now in
    let i = c.loop-b.b-index in
    elim c.if-b-eq10.branch [
      | then-b-eq10 w ↦ record {
        line = omega (arith, line-after_feed front i c.loop-b-test.true w.if-b-eq10.true);
        column = omega (arith, column-after_feed front i c.loop-b-test.true w.if-b-eq10.true);
      }
      | else-b-eq10 w ↦ record {
        line = omega (arith, line-after_other front i c.loop-b-test.true w.if-b-eq10.false);
        column = omega (arith, column-after_other front i c.loop-b-test.true w.if-b-eq10.false);
      }
    ]
