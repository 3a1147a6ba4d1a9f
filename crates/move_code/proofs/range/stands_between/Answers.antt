use Rattle.std.proofs.Common.{◌-◌, ◌&&◌, nat_le, ap, ap₂, ◌∙◌, arith}
use Rattle.bddl_model.specs.Words.{word_value}
use Rattle.bddl_model.proofs.Growth.{grows_then, makes_after}
use Rattle.bddl_model.proofs.WireWords.{word_stays, value_kept}
use Rattle.move_code.proofs.Ranges.{between_from_one}
use Rattle.move_code.proofs.range.stands_between.Goals as goal

pub at_most-requires-clause-a : goal.at_most-requires-clause-a
at_most-requires-clause-a c = word_stays _ _ _ c.args.word.now c.in_ok-from.ensures.grows c.requires.word

pub returns : goal.returns
returns c = makes_after (grows_then c.in_ok-from.ensures.grows c.in_ok-to.ensures.grows) c.and.ensures.made (omega arith) (λ a.
    ap₂ (λ s t. s && t)
    (c.in_ok-to.ensures.grows.kept c.in_ok-from.from a c.in_ok-from.ensures.wire ∙ c.in_ok-from.ensures.value a)
    (c.in_ok-to.ensures.value a ∙ ap (λ n. nat_le n (c.args.high - 1)) (value_kept _ _ _ c.args.word.now a c.in_ok-from.ensures.grows c.requires.word))
    ∙ between_from_one c.args.low c.args.high (word_value c.args.dag.now c.args.word.now a) c.requires.low c.requires.high)
