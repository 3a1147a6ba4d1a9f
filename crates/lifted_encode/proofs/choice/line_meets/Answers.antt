use Rattle.std.proofs.Common.{◌*◌, List, length, sym, subst, ap, ap₂, ◌∙◌, arith}
use Rattle.std.specs.List.{sum_by}
use Rattle.bddl_model.specs.declared.circuit.Wire.{Wire}
use Rattle.bddl_model.specs.Bits.{bits}
use Rattle.bddl_model.specs.Conditions.{Cell}
use Rattle.bddl_model.specs.Encoding.{line_tests}
use Rattle.bddl_model.specs.OneCell.{spelled_cell}
use Rattle.bddl_model.specs.Words.{AreWires, word_bits, word_value}
use Rattle.symbol_cell.specs.Pairs.{mark_of}
use Rattle.symbol_cell.specs.Steps.{unit}
use Rattle.symbol_cell.proofs.CodeParts.{anchor_short}
use Rattle.lifted_encode.specs.declared.items.Items.TheVariants.{Lines}
use Rattle.lifted_encode.specs.Asking.{Here, question, found_met}
use Rattle.lifted_encode.specs.Chosen.{items_of, item_parts}
use Rattle.lifted_encode.proofs.Choosing.{few_lines}
use Rattle.lifted_encode.proofs.Found.{line_told}
use Rattle.lifted_encode.proofs.Reading.{makes_as, carried_length, carried_number, carried_cell}
use Rattle.lifted_encode.proofs.choice.line_meets.Goals as goal

pub some_item-requires-clause-short : goal.some_item-requires-clause-short
some_item-requires-clause-short c =
    let len = carried_length c.args.dag.now c.args.line c.in_ok-number.number.items c.in_ok-number.ensures ∙ c.requires.line.1 in
    let few = few_lines c.args.game.now c.args.side c.keeps_the_limits.ensures in
    omega (arith, len, few, ap length c.deref-2.ensures.value)

pub some_item-requires-clause-spot : goal.some_item-requires-clause-spot
some_item-requires-clause-spot c =
    let len = carried_length c.args.dag.now c.args.anchor c.in_ok-anchor.anchor.items c.in_ok-anchor.ensures ∙ c.requires.anchor.1 in
    let columns = c.bits.ensures.value ∙ ap bits c.width.ensures.value in
    let short = anchor_short c.args.game.now c.keeps_the_limits.ensures in
    record {
      cells = record {
        anchor = subst (AreWires c.args.dag.now) (sym c.deref.ensures.value) c.in_ok-anchor.ensures.wires;
        place = c.requires.place;
        lengths = ap length c.deref.ensures.value ∙ len ∙ sym c.requires.place_bits;
        columns = omega (arith, columns, c.requires.place_bits);
        short = omega (arith, short, c.requires.place_bits);
      };
      mark = c.requires.mark;
    }

pub returns : goal.returns
returns c =
    let g = c.args.game.now in
    let dag = c.args.dag.now in
    let columns = c.bits.ensures.value ∙ ap bits c.width.ensures.value in
    let gates = ap (λ n. unit n * sum_by item_parts (items_of g (Lines c.args.side))) c.requires.place_bits in
    makes_as c.some_item.ensures (omega (arith, gates)) (λ a.
    let here : Here = record { anchor = spelled_cell c.bits.result (word_bits dag c.deref.result.now a); place = spelled_cell c.bits.result (word_bits dag c.args.place.now a); mark = mark_of dag c.args.mark a } in
    let number = ap (λ (ws : List Wire). word_value dag ws a) c.deref-2.ensures.value ∙ carried_number dag c.args.line c.in_ok-number.number.items a c.in_ok-number.ensures in
    let anchor = ap₂ (λ n (ws : List Wire). spelled_cell n (word_bits dag ws a)) columns c.deref.ensures.value ∙ carried_cell g dag c.args.anchor c.in_ok-anchor.anchor.items a c.in_ok-anchor.ensures c.requires.anchor.1 in
    line_told g (question dag c.args.asked a) here c.args.side (word_value dag c.deref-2.result.now a)
    ∙ ap (λ n. found_met (question dag c.args.asked a) (spelled_cell n (word_bits dag c.args.place.now a)) (mark_of dag c.args.mark a) (line_tests g c.args.side (word_value dag c.deref-2.result.now a) here.anchor)) columns
    ∙ ap₂ (λ n (cell : Cell). found_met (question dag c.args.asked a) (spelled_cell (bits g.width) (word_bits dag c.args.place.now a)) (mark_of dag c.args.mark a) (line_tests g c.args.side n cell)) number anchor)
