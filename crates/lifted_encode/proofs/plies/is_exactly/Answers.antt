use Rattle.std.proofs.Common.{not, ap, ◌∙◌, arith}
use Rattle.bddl_model.proofs.Growth.{grows_then, makes_after}
use Rattle.bddl_model.proofs.WireWords.{word_stays, value_kept}
use Rattle.lifted_encode.proofs.Turns.{exactly}
use Rattle.lifted_encode.proofs.plies.is_exactly.Goals as goal

pub at_least-requires-2-clause-a : goal.at_least-requires-2-clause-a
at_least-requires-2-clause-a c = word_stays _ c.args.dag.now c.at_least.new.dag c.args.word.now c.in_ok-reached.ensures.grows c.requires.word

pub returns : goal.returns
returns c =
    let reached = c.in_ok-reached.ensures in
    let passed = c.in_ok-passed.ensures in
    makes_after (grows_then reached.grows passed.grows) c.and.ensures.made (omega arith) (λ a.
    exactly _ c.args.number _ _ _ (passed.grows.kept c.in_ok-reached.reached a reached.wire ∙ reached.value a) (c.not-not_passed.ensures.value a ∙ ap not (passed.value a))
    (value_kept _ c.args.dag.now c.at_least.new.dag c.args.word.now a reached.grows c.requires.word))
