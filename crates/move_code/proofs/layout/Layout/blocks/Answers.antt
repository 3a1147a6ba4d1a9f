use Rattle.std.proofs.Common.{◌≡◌, ◌++◌, ap, ◌∙◌, arith}
use Rattle.std.proofs.lemmas.Grind.{common_steps}
use Rattle.bddl_model.specs.Layout.{plies_blocks, claim_blocks, prefix_of}
use Rattle.bddl_model.proofs.Covering.{prefix_of-append}
use Rattle.move_code.proofs.layout.Layout.blocks.Goals as goal

pub returns-clause-prefix : goal.returns-clause-prefix
returns-clause-prefix c =
    let l = c.args.self.now in
    let items : c.extend_from_slice.new.self.items ≡ plies_blocks l.plies ++ claim_blocks l = grind (arith, common_steps) in
    ap prefix_of items ∙ prefix_of-append (plies_blocks l.plies) (claim_blocks l)
