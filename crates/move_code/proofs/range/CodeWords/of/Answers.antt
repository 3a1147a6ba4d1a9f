use Rattle.std.proofs.Common.{rules, subst}
use Rattle.move_code.proofs.CodeSplit.{AreParts, parts_are_words}
use Rattle.move_code.proofs.range.CodeWords.of.Goals as goal

pub returns : goal.returns
returns c = parts_are_words c.args.game.now c.args.side c.keeps_the_limits.ensures c.requires.some c.args.code.now c.requires.length _ (subst (λ s. AreParts s c.args.code.now (record { action = c.split_at.result.0; x = c.split_at-2.result.0; y = c.split_at-2.result.1 })) c.of-shape.ensures (search rules))
