use Rattle.std.proofs.Common.{◌∙◌, ap, arith, refl, sym}
use Rattle.std.specs.List.{list_any}
use Rattle.bddl_model.specs.Check.{same_cell}
use Rattle.bddl_make.proofs.Stones.{no_stones, stone_left_out, stone_put}
use Rattle.bddl_make.proofs.large.stones.Goals as goal
use Rattle.bddl_make.proofs.large.stones.Goals.{then-not-is_named+in_ok-push, else-not-is_named}

pub loop-place-init : goal.loop-place-init
loop-place-init c = (c.new-init.ensures ∙ no_stones c.args.draws.now.number, refl, c.requires.begun)

pub loop-place-preserved : goal.loop-place-preserved
loop-place-preserved c =
    let kept = c.loop-place.invariant in
    let next = c.stone-stone.ensures.next in
    let count = ap (λ d. d.count) next in
    let cells = ap (λ cells. list_any (same_cell c.stone-stone.result) cells) c.as_slice.ensures in (
      elim c.if-not-is_named.branch [
        | then-not-is_named+in_ok-push w ↦ w.init-is ∙ w.in_ok-push.ensures.ok ∙ stone_put c.args.draws.now.number c.loop-place._place c.loop-place.draws.number c.args.width c.args.height c.loop-place.draws.count kept.1 c.requires.width c.requires.height kept.2 c.loop-place.init kept.0 c.stone-stone.result c.stone-stone.ensures.drawn (sym (w.if-not-is_named.ensures ∙ cells))
        | else-not-is_named w ↦ w.init-is ∙ stone_left_out c.args.draws.now.number c.loop-place._place c.loop-place.draws.number c.args.width c.args.height c.loop-place.draws.count kept.1 c.requires.width c.requires.height kept.2 c.loop-place.init kept.0 c.stone-stone.result c.stone-stone.ensures.drawn (sym (w.if-not-is_named.ensures ∙ cells))
      ],
      ap (λ d. d.number) next ∙ kept.1,
      omega (arith, count, kept.2),
    )
