use Rattle.std.proofs.Common.{◌≡◌}
use Rattle.bddl_model.specs.Truth.{Assignment}
use Rattle.bddl_model.specs.Words.{AreWires, word_bits}
use Rattle.symbol_cell.specs.Coded.{values_at}
use Rattle.symbol_cell.proofs.word.input_word.Given as goal

abbrev pub invariant-inputs : goal.invariant-inputs
invariant-inputs l = record {
  wires : AreWires l.dag l.word.items;
  bits : (a : Assignment) → word_bits l.dag l.word.items a ≡ values_at a l.span.from l.i;
}
