use Rattle.std.proofs.Common.{◌≡◌, ◌+◌, ◌-◌, ◌∙◌, suc, arith}
use Rattle.qdimacs_io.proofs.FreeVariables.{one_is_free, one_is_not, below_more, below_still}
use Rattle.qdimacs_io.proofs.prefix.free_variables.Goals as goal
use Rattle.qdimacs_io.proofs.prefix.free_variables.Goals.{then-is_free+in_ok-push, else-is_free}

pub loop-number-preserved : goal.loop-number-preserved
loop-number-preserved c =
    let n = c.loop-number.number in
    let before = c.loop-number.invariant in
    let count : c.args.variables + 1 - n ≡ suc (c.args.variables + 1 - (n + 1)) = omega (arith, c.loop-number-test.true) in
    elim c.if-is_free.branch [
      | then-is_free+in_ok-push w ↦ record {
        found = one_is_free c.args.occurs.now c.args.prefix.now n _ _ c.loop-number.free c.if-is_free.free _ count w.if-is_free.ensures (w.free-is ∙ w.in_ok-push.ensures.ok) before.found;
        below = below_more n c.loop-number.free c.if-is_free.free (w.free-is ∙ w.in_ok-push.ensures.ok) before.below;
      }
      | else-is_free w ↦ record {
        found = one_is_not c.args.occurs.now c.args.prefix.now n _ _ c.loop-number.free c.if-is_free.free _ count w.if-is_free.ensures w.free-is before.found;
        below = below_still n c.loop-number.free c.if-is_free.free w.free-is before.below;
      }
    ]
