use Rattle.std.proofs.Common.{◌≡◌, ◌≤◌, List, length, take, drop, sym, subst, ap, ◌∙◌, arith}
use Rattle.bddl_model.specs.declared.circuit.Wire.{Wire}
use Rattle.bddl_model.specs.Bits.{bits}
use Rattle.bddl_model.specs.Game.{actions}
use Rattle.bddl_model.specs.Words.{AreWires}
use Rattle.bddl_model.proofs.WireWords.{word_front, word_behind}
use Rattle.symbol_cell.proofs.CodeParts.{anchor_length, anchor_short, action_short, code_shown}
use Rattle.symbol_cell.proofs.step.put_move.Goals as goal

pub put_actions-requires-clause-action : goal.put_actions-requires-clause-action
put_actions-requires-clause-action c = subst (AreWires c.args.dag.now) (sym c.split_at.ensures.front) (word_front c.args.dag.now c.bits.result c.args.code.now c.requires.code)

pub put_actions-requires-clause-short : goal.put_actions-requires-clause-short
put_actions-requires-clause-short c =
    let cut = ap bits c.actions-count.ensures in
    let front = c.split_at.ensures.front ∙ ap (λ n. take n c.args.code.now) (c.bits.ensures.value ∙ cut) in
    subst (λ (action : List Wire). length action ≤ 16) (sym front) (action_short c.args.game.now c.args.side c.keeps_the_limits.ensures (omega (arith, c.actions-count.ensures, c.if-count-eq0)) c.args.code.now c.requires.code_bits)

pub put_actions-requires-clause-cells : goal.put_actions-requires-clause-cells
put_actions-requires-clause-cells c =
    let cut = ap bits c.actions-count.ensures in
    let behind = c.split_at.ensures.back ∙ ap (λ n. drop n c.args.code.now) (c.bits.ensures.value ∙ cut) in
    let some : 1 ≤ length (actions c.args.game.now c.args.side) = omega (arith, c.actions-count.ensures, c.if-count-eq0) in
    let is = c.keeps_the_limits.ensures in
    let columns = c.bits-2.ensures.value ∙ ap bits c.width.ensures.value in
    let long = ap length behind ∙ anchor_length c.args.game.now c.args.side is some c.args.code.now c.requires.code_bits in
    let short = anchor_short c.args.game.now is in
    record {
      anchor = subst (AreWires c.args.dag.now) (sym c.split_at.ensures.back) (word_behind c.args.dag.now c.bits.result c.args.code.now c.requires.code);
      place = c.requires.place;
      lengths = long ∙ sym c.requires.place_bits;
      columns = omega (arith, columns, c.requires.place_bits);
      short = omega (arith, short, c.requires.place_bits);
    }

pub returns-clause-shown : goal.returns-clause-shown
returns-clause-shown c =
    let cut = ap bits c.actions-count.ensures in
    let front = c.split_at.ensures.front ∙ ap (λ n. take n c.args.code.now) (c.bits.ensures.value ∙ cut) in
    let behind = c.split_at.ensures.back ∙ ap (λ n. drop n c.args.code.now) (c.bits.ensures.value ∙ cut) in
    let some : 1 ≤ length (actions c.args.game.now c.args.side) = omega (arith, c.actions-count.ensures, c.if-count-eq0) in
    code_shown c.args.game.now c.args.side c.keeps_the_limits.ensures some c.args.code.now c.requires.code_bits
    c.split_at.result.0.now c.split_at.result.1.now c.bits-2.result front behind (c.bits-2.ensures.value ∙ ap bits c.width.ensures.value)
    c.args.dag.now c.put_actions.new.dag c.args.place.now c.args.before c.put_actions.result c.put_actions.ensures.shown
