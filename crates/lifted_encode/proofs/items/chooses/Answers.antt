use Rattle.std.proofs.Common.{sym, subst, ap, length, arith}
use Rattle.bddl_model.specs.Words.{AreWires}
use Rattle.bddl_model.proofs.WireWords.{word_front, word_behind}
use Rattle.std.proofs.lemmas.List.{length-take-le, length-drop}
use Rattle.lifted_encode.proofs.items.chooses.Goals as goal

pub names-requires-clause-words : goal.names-requires-clause-words
names-requires-clause-words c =
    let cells = c.args.cells in
    let front = length-take-le cells.x_bits cells.anchor.now (omega (arith, c.requires.cells.columns, c.requires.cells.lengths)) in
    let behind = length-drop cells.x_bits cells.anchor.now in
    record {
      action = c.requires.word;
      x = subst (AreWires c.args.dag.now) (sym c.split_at.ensures.front) (word_front c.args.dag.now cells.x_bits cells.anchor.now c.requires.cells.anchor);
      y = subst (AreWires c.args.dag.now) (sym c.split_at.ensures.back) (word_behind c.args.dag.now cells.x_bits cells.anchor.now c.requires.cells.anchor);
      short = (
        omega (arith, ap length c.split_at.ensures.front, front, c.requires.cells.columns, c.requires.cells.short),
        omega (arith, ap length c.split_at.ensures.back, behind, c.requires.cells.lengths, c.requires.cells.short),
      );
    }
