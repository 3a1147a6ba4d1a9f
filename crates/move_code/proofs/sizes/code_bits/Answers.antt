use Rattle.std.proofs.Common.{ap, ◌∙◌}
use Rattle.bddl_model.specs.Codes.{code_length}
use Rattle.bddl_model.proofs.Codes.{code_length_is}
use Rattle.move_code.proofs.sizes.code_bits.Goals as goal

pub returns-clause-value : goal.returns-clause-value
returns-clause-value c = c.len.ensures.value ∙ ap code_length c.of.ensures ∙ code_length_is c.args.game.now c.args.side
