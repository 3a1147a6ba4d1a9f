use Rattle.std.proofs.Common.{ap, ap₂, ◌∙◌, not, ◌||◌, arith}
use Rattle.bddl_model.proofs.Growth.{grows_then, makes_after}
use Rattle.lifted_encode.proofs.Meeting.{test_here, test_passed}
use Rattle.lifted_encode.proofs.asked.passes_here.Goals as goal

pub returns : goal.returns
returns c =
    let touched = c.in_ok-here.ensures in
    let shown = c.in_ok-passed.ensures in
    makes_after (grows_then touched.grows shown.grows) c.or.ensures (omega arith) (λ a.
    ap₂ (λ x y. x || y)
    (c.not-elsewhere.ensures.value a ∙ ap not (test_here c.args.spot c.args.test c.in_ok-here.here c.in_ok-passed.passed a touched.grows shown.grows c.requires.spot touched.wire (touched.value a)))
    (test_passed c.args.spot c.args.test c.in_ok-here.here c.in_ok-passed.passed a touched.grows shown.grows c.requires.spot (shown.value a)))
