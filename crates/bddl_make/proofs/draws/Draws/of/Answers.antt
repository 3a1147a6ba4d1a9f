use Rattle.std.proofs.Common.{◌∙◌, ap}
use Rattle.bddl_make.specs.Draws.{words_from}
use Rattle.bddl_make.proofs.Drawing.{first_drawn}
use Rattle.bddl_make.proofs.draws.Draws.of.Goals as goal

pub invariant_of-result : goal.invariant_of-result
invariant_of-result c = ap (λ g. words_from g) (c.seed_from_u64.ensures ∙ first_drawn c.args.number)
