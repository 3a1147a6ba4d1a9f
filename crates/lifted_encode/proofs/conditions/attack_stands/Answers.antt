use Rattle.std.proofs.Common.{List, length, subst, sym, ap, ap₂, ◌∙◌, arith}
use Rattle.bddl_model.specs.declared.circuit.Wire.{Wire}
use Rattle.bddl_model.specs.declared.game.Side.TheVariants.{White}
use Rattle.bddl_model.specs.Encoding.{line_tests, number_in, cell_in}
use Rattle.bddl_model.specs.Layout.{Inputs}
use Rattle.bddl_model.specs.Words.{AreWires, word_value}
use Rattle.bddl_model.proofs.Growth.{makes_after}
use Rattle.bddl_model.proofs.WireWords.{word_stays, value_kept}
use Rattle.symbol_cell.specs.Pairs.{mark_of}
use Rattle.symbol_cell.specs.Runs.{place_named}
use Rattle.lifted_encode.specs.Asking.{unrefuted, found_met}
use Rattle.lifted_encode.proofs.Reading.{carried_length, carried_number}
use Rattle.lifted_encode.proofs.Turns.{place_stays, place_told}
use Rattle.lifted_encode.proofs.conditions.attack_stands.Goals as goal

pub line_meets-requires-clause-asked : goal.line_meets-requires-clause-asked
line_meets-requires-clause-asked c =
    let word = c.in_ok-test.test.items in
    let len = carried_length c.args.dag.now _ word c.in_ok-test.ensures in
    let span = ap (λ (t : Inputs). t.refuting.len) c.layout.view_is in (
      subst (AreWires c.mark_at.new.dag) (sym c.deref.ensures.value) (word_stays _ c.args.dag.now c.mark_at.new.dag word c.in_ok-mark.ensures.grows c.in_ok-test.ensures.wires),
      omega (arith, len, span, c.requires.laid.refuting.1, ap length c.deref.ensures.value),
    )

pub line_meets-requires-clause-place : goal.line_meets-requires-clause-place
line_meets-requires-clause-place c = place_stays c.args.game.now _ c.args.dag.now c.mark_at.new.dag c.args.run.now c.requires.run.0 c.in_ok-mark.ensures.grows c.requires.run.1 c.place-place.result.now c.place-place.ensures

pub returns : goal.returns
returns c =
    let g = c.args.game.now in
    let l = c.args.layout.now in
    let r = c.args.run.now in
    let dag = c.args.dag.now in
    let next = c.mark_at.new.dag in
    let mark = c.in_ok-mark.ensures in
    let word = c.in_ok-test.test.items in
    makes_after mark.grows c.line_meets.ensures (omega arith) (λ a.
    let there = place_named g next a c.place-place.result.now in
    let shown = mark_of next c.in_ok-mark.mark a in
    let test = ap (λ (ws : List Wire). word_value next ws a) c.deref.ensures.value ∙ value_kept _ dag next word a mark.grows c.in_ok-test.ensures.wires ∙ carried_number dag _ word a c.in_ok-test.ensures ∙ ap (λ (t : Inputs). number_in a t.refuting) c.layout.view_is in
    ap₂ (λ line anchor. found_met (unrefuted (word_value next c.deref.result.now a)) there shown (line_tests g White (number_in a line) (cell_in g a anchor))) (ap (λ (t : Inputs). t.white_line) c.layout.view_is) (ap (λ (t : Inputs). t.white_anchor) c.layout.view_is)
    ∙ ap (λ n. found_met (unrefuted n) there shown (line_tests g White (number_in a l.white_line) (cell_in g a l.white_anchor))) test
    ∙ ap₂ (λ place m. found_met (unrefuted (number_in a l.refuting)) place m (line_tests g White (number_in a l.white_line) (cell_in g a l.white_anchor)))
    (place_told g _ dag next r c.requires.run.0 mark.grows c.requires.run.1 c.place-place.result.now a c.place-place.ensures)
    (mark.shown a))
