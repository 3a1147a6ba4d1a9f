use Rattle.std.proofs.Common.{length, sym, subst, ap, ◌∙◌, arith}
use Rattle.bddl_model.specs.Words.{AreWires}
use Rattle.bddl_model.proofs.Growth.{grows_then, makes_after}
use Rattle.bddl_model.proofs.WireWords.{word_stays, word_front, word_behind}
use Rattle.symbol_cell.proofs.Touching.{touch_value}
use Rattle.symbol_cell.proofs.touch.touches.Goals as goal

pub leads_to-requires-clause-anchor : goal.leads_to-requires-clause-anchor
leads_to-requires-clause-anchor c = subst (AreWires c.args.dag.now) (sym c.split_at.ensures.front) (word_front _ c.args.x_bits c.args.anchor.now c.requires.anchor)

pub leads_to-requires-clause-place : goal.leads_to-requires-clause-place
leads_to-requires-clause-place c = subst (AreWires c.args.dag.now) (sym c.split_at-2.ensures.front) (word_front _ c.args.x_bits c.args.place.now c.requires.place)

pub leads_to-requires-2-clause-anchor : goal.leads_to-requires-2-clause-anchor
leads_to-requires-2-clause-anchor c = subst (AreWires c.leads_to.new.dag) (sym c.split_at.ensures.back) (word_behind _ c.args.x_bits c.args.anchor.now (word_stays _ _ _ c.args.anchor.now c.in_ok-x.ensures.grows c.requires.anchor))

pub leads_to-requires-2-clause-place : goal.leads_to-requires-2-clause-place
leads_to-requires-2-clause-place c = subst (AreWires c.leads_to.new.dag) (sym c.split_at-2.ensures.back) (word_behind _ c.args.x_bits c.args.place.now (word_stays _ _ _ c.args.place.now c.in_ok-x.ensures.grows c.requires.place))

pub returns : goal.returns
returns c =
    let anchor = c.split_at.ensures in
    let place = c.split_at-2.ensures in
    makes_after (grows_then c.in_ok-x.ensures.grows c.in_ok-y.ensures.grows) c.and.ensures.made (omega (arith, place.front_len, place.back_len))
    (λ a. touch_value c.args.dag.now c.leads_to.new.dag c.leads_to-2.new.dag _ _ c.args.x_bits c.args.atom c.args.anchor.now c.args.place.now _ _ _ _ c.in_ok-x.x c.in_ok-y.y a
    c.in_ok-x.ensures.grows c.in_ok-y.ensures.grows c.requires.anchor c.requires.place anchor.front anchor.back place.front place.back c.in_ok-x.ensures.wire (c.in_ok-x.ensures.value a) (c.in_ok-y.ensures.value a))
