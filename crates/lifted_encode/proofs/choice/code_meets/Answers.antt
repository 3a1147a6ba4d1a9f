use Rattle.std.proofs.Common.{◌*◌, ◌≤◌, List, length, take, drop, sym, subst, ap, ap₂, ◌∙◌, arith}
use Rattle.bddl_model.specs.declared.circuit.Wire.{Wire}
use Rattle.bddl_model.specs.declared.game.Move.{Move}
use Rattle.bddl_model.specs.Bits.{bits}
use Rattle.bddl_model.specs.Encoding.{move_tests}
use Rattle.bddl_model.specs.Game.{actions}
use Rattle.bddl_model.specs.OneCell.{spelled_cell}
use Rattle.bddl_model.specs.Words.{AreWires, word_bits, word_value}
use Rattle.bddl_model.proofs.Codes.{some_actions}
use Rattle.bddl_model.proofs.WireWords.{word_front, word_behind}
use Rattle.symbol_cell.specs.Pairs.{mark_of}
use Rattle.symbol_cell.specs.Steps.{unit}
use Rattle.symbol_cell.proofs.CodeParts.{anchor_length, anchor_short, action_short}
use Rattle.lifted_encode.specs.Asking.{Here, question, found_met}
use Rattle.lifted_encode.specs.Telling.{action_parts}
use Rattle.lifted_encode.proofs.Found.{action_told}
use Rattle.lifted_encode.proofs.Reading.{makes_as, carried_length, code_named}
use Rattle.lifted_encode.proofs.choice.code_meets.Goals as goal

pub split_at-requires : goal.split_at-requires
split_at-requires c =
    let g = c.args.game.now in
    let some : 1 ≤ length (actions g c.args.side) = omega (arith, c.actions-count.ensures, c.if-count-eq0) in
    let whole = carried_length c.args.dag.now c.args.code c.in_ok-word.word.items c.in_ok-word.ensures ∙ c.requires.code.1 ∙ some_actions _ some in
    let cut = c.bits.ensures.value ∙ ap bits c.actions-count.ensures in
    omega (arith, whole, cut, ap length c.deref.ensures.value)

pub some_item-requires-clause-word : goal.some_item-requires-clause-word
some_item-requires-clause-word c =
    let front = c.split_at.ensures.front ∙ ap (λ (ws : List Wire). take c.bits.result ws) c.deref.ensures.value in
    subst (AreWires c.args.dag.now) (sym front) (word_front c.args.dag.now c.bits.result c.in_ok-word.word.items c.in_ok-word.ensures.wires)

pub some_item-requires-clause-short : goal.some_item-requires-clause-short
some_item-requires-clause-short c =
    let g = c.args.game.now in
    let some : 1 ≤ length (actions g c.args.side) = omega (arith, c.actions-count.ensures, c.if-count-eq0) in
    let cut = c.bits.ensures.value ∙ ap bits c.actions-count.ensures in
    let front = c.split_at.ensures.front ∙ ap₂ (λ n (ws : List Wire). take n ws) cut c.deref.ensures.value in
    let len = carried_length c.args.dag.now c.args.code c.in_ok-word.word.items c.in_ok-word.ensures ∙ c.requires.code.1 in
    subst (λ (action : List Wire). length action ≤ 16) (sym front) (action_short g c.args.side c.keeps_the_limits.ensures some c.in_ok-word.word.items len)

pub some_item-requires-clause-spot : goal.some_item-requires-clause-spot
some_item-requires-clause-spot c =
    let g = c.args.game.now in
    let some : 1 ≤ length (actions g c.args.side) = omega (arith, c.actions-count.ensures, c.if-count-eq0) in
    let cut = c.bits.ensures.value ∙ ap bits c.actions-count.ensures in
    let behind = c.split_at.ensures.back ∙ ap (λ (ws : List Wire). drop c.bits.result ws) c.deref.ensures.value in
    let len = carried_length c.args.dag.now c.args.code c.in_ok-word.word.items c.in_ok-word.ensures ∙ c.requires.code.1 in
    let long = ap length (behind ∙ ap (λ n. drop n c.in_ok-word.word.items) cut) ∙ anchor_length g c.args.side c.keeps_the_limits.ensures some c.in_ok-word.word.items len in
    let columns = c.bits-2.ensures.value ∙ ap bits c.width.ensures.value in
    let short = anchor_short g c.keeps_the_limits.ensures in
    record {
      cells = record {
        anchor = subst (AreWires c.args.dag.now) (sym behind) (word_behind c.args.dag.now c.bits.result c.in_ok-word.word.items c.in_ok-word.ensures.wires);
        place = c.requires.place;
        lengths = long ∙ sym c.requires.place_bits;
        columns = omega (arith, columns, c.requires.place_bits);
        short = omega (arith, short, c.requires.place_bits);
      };
      mark = c.requires.mark;
    }

pub returns : goal.returns
returns c =
    let g = c.args.game.now in
    let dag = c.args.dag.now in
    let some : 1 ≤ length (actions g c.args.side) = omega (arith, c.actions-count.ensures, c.if-count-eq0) in
    let cut = c.bits.ensures.value ∙ ap bits c.actions-count.ensures in
    let front = c.split_at.ensures.front ∙ ap (λ (ws : List Wire). take c.bits.result ws) c.deref.ensures.value in
    let behind = c.split_at.ensures.back ∙ ap (λ (ws : List Wire). drop c.bits.result ws) c.deref.ensures.value in
    let columns = c.bits-2.ensures.value ∙ ap bits c.width.ensures.value in
    let gates = ap (λ n. unit n * action_parts g c.args.side) c.requires.place_bits in
    makes_as c.some_item.ensures (omega (arith, gates)) (λ a.
    let here : Here = record { anchor = spelled_cell c.bits-2.result (word_bits dag c.split_at.result.1.now a); place = spelled_cell c.bits-2.result (word_bits dag c.args.place.now a); mark = mark_of dag c.args.mark a } in
    action_told g (question dag c.args.asked a) here c.args.side (word_value dag c.split_at.result.0.now a)
    ∙ ap₂ (λ n (m : Move). found_met (question dag c.args.asked a) (spelled_cell n (word_bits dag c.args.place.now a)) (mark_of dag c.args.mark a) (move_tests g c.args.side m)) columns
    (code_named g c.args.side c.keeps_the_limits.ensures some dag c.args.code c.in_ok-word.word.items c.split_at.result.0.now c.split_at.result.1.now c.bits.result c.bits-2.result a c.in_ok-word.ensures c.requires.code.1 cut front behind columns))
