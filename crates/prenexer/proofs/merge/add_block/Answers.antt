use Rattle.std.proofs.Common.{[], ◌∷◌, ◌++◌, refl, sym, ap, ◌∙◌}
use Rattle.prenexer.proofs.Prenexing.{behind_blocks, merged_more}
use Rattle.prenexer.proofs.Joined.{same_quants, empty_behind, joined_last, apart_last, first_of_all}
use Rattle.prenexer.proofs.merge.add_block.Goals as goal
use Rattle.prenexer.proofs.merge.add_block.Goals.{in_default-via-in-Some+else-eq, in_default-via-in-None-1}

pub returns-then-block-eq0 : goal.returns-then-block-eq0
returns-then-block-eq0 c = λ bs h. sym (empty_behind c.args.block c.if-block-eq0.true c.args.blocks.now.items) ∙ ap (λ cs. behind_blocks cs c.args.block) h ∙ sym (merged_more bs c.args.block)

pub returns-in-Some : goal.returns-in-Some
returns-in-Some c = λ bs h.
    let vec = c.args.blocks.now in
    let last = c.in-Some.last.now in
    joined_last c.args.block last c.if-block-eq0.false vec.items _ vec.ok.0 (c.in-Some.ensures.variant.0 refl) c.in-Some.ensures.value (sym (same_quants last.quant c.args.block.quant) ∙ sym c.eq.ensures ∙ c.if-eq.true)
    ∙ ap (λ cs. behind_blocks cs c.args.block) h ∙ sym (merged_more bs c.args.block)

pub returns-in_ok-push-in_default : goal.returns-in_ok-push-in_default
returns-in_ok-push-in_default c = λ bs h.
    let vec = c.args.blocks.now in
    c.in_ok-push-in_default.ensures.items
    ∙ elim c.in_default.branch [
      | in_default-via-in-Some+else-eq w ↦
          ap (λ v. v.items ++ c.args.block ∷ []) w.blocks-is
          ∙ apart_last c.args.block w.in-Some.last.now c.if-block-eq0.false vec.items _ vec.ok.0 (w.in-Some.ensures.variant.0 refl) w.in-Some.ensures.value
          (sym (same_quants w.in-Some.last.now.quant c.args.block.quant) ∙ sym w.eq.ensures ∙ w.if-eq.false)
      | in_default-via-in-None-1 w ↦
          ap (λ v. v.items ++ c.args.block ∷ []) w.blocks-is
          ∙ first_of_all c.args.block c.if-block-eq0.false vec.items _ vec.ok.0 (λ low. let there = c.last_mut.ensures.variant.1 low in cc)
    ]
    ∙ ap (λ cs. behind_blocks cs c.args.block) h ∙ sym (merged_more bs c.args.block)
