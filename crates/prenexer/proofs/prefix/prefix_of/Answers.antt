use Rattle.std.proofs.Common.{◌∙◌}
use Rattle.std.proofs.lemmas.Result.{IfOk-weaker}
use Rattle.prenexer.proofs.Whole.{whole_covers, joined_covers, in_order, all_covered, in_sets}
use Rattle.prenexer.proofs.prefix.prefix_of.Goals as goal

pub merged_blocks-requires : goal.merged_blocks-requires
merged_blocks-requires c = (_, c.requires.few, whole_covers c.args.blocks.now c.args.inputs c.args.gates c.requires.cover _ (c.deref.ensures.value ∙ c.in_ok-whole.ensures))

pub prefix_of_blocks-requires : goal.prefix_of_blocks-requires
prefix_of_blocks-requires c =
    let whole = c.deref.ensures.value ∙ c.in_ok-whole.ensures in
    (_, c.requires.few, joined_covers c.args.blocks.now c.args.inputs c.args.gates c.requires.cover _ whole _ (c.deref-2.ensures.value ∙ c.in_ok-merged.ensures))

pub returns : goal.returns
returns c =
    let whole = c.deref.ensures.value ∙ c.in_ok-whole.ensures in
    let joined = c.deref-2.ensures.value ∙ c.in_ok-merged.ensures in
    let result = c.prefix_of_blocks.result in
    record {
      order = IfOk-weaker result _ _ (in_order c.args.blocks.now c.args.inputs c.args.gates c.requires.cover _ whole _ joined) c.prefix_of_blocks.ensures;
      covered = IfOk-weaker result _ _ (all_covered c.args.blocks.now c.args.inputs c.args.gates c.requires.cover _ whole _ joined) c.prefix_of_blocks.ensures;
      merged = IfOk-weaker result _ _ (in_sets c.args.blocks.now c.args.inputs c.args.gates c.requires.cover _ whole _ joined) c.prefix_of_blocks.ensures;
    }
