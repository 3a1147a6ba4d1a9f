use Rattle.std.proofs.Common.{length, sym, subst, ap, ◌∙◌, arith}
use Rattle.bddl_model.specs.declared.game.Atom.{Atom}
use Rattle.bddl_model.specs.declared.game.Mark.TheVariants.{Free}
use Rattle.bddl_model.specs.declared.game.Term.TheVariants.{Abs}
use Rattle.bddl_model.specs.Words.{AreWires}
use Rattle.bddl_model.proofs.Growth.{grows_then, makes_after}
use Rattle.bddl_model.proofs.WireWords.{word_stays, word_front, word_behind}
use Rattle.symbol_cell.proofs.Touching.{touch_value}
use Rattle.symbol_cell.proofs.start.is_cell.Goals as goal

pub is_number-requires-clause-word : goal.is_number-requires-clause-word
is_number-requires-clause-word c = subst (AreWires c.args.dag.now) (sym c.split_at.ensures.front) (word_front _ c.args.x_bits c.args.place.now c.requires.place)

pub is_number-requires-2-clause-word : goal.is_number-requires-2-clause-word
is_number-requires-2-clause-word c = subst (AreWires c.is_number.new.dag) (sym c.split_at.ensures.back) (word_behind _ c.args.x_bits c.args.place.now (word_stays _ _ _ c.args.place.now c.in_ok-column.ensures.grows c.requires.place))

-- as an atom that says the cell from no anchor
pub returns : goal.returns
returns c =
    let place = c.split_at.ensures in
    let atom : Atom = record { mark = Free; x = Abs c.args.x; y = Abs c.args.y } in
    makes_after (grows_then c.in_ok-column.ensures.grows c.in_ok-row.ensures.grows) c.and.ensures.made (omega (arith, place.front_len, place.back_len))
    (λ a. touch_value c.args.dag.now c.is_number.new.dag c.is_number-2.new.dag _ _ c.args.x_bits atom c.args.place.now c.args.place.now _ _ _ _ c.in_ok-column.column c.in_ok-row.row a
    c.in_ok-column.ensures.grows c.in_ok-row.ensures.grows c.requires.place c.requires.place place.front place.back place.front place.back c.in_ok-column.ensures.wire (c.in_ok-column.ensures.value a) (c.in_ok-row.ensures.value a))
