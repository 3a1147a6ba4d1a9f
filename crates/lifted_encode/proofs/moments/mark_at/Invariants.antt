use Rattle.std.proofs.Common.{◌≡◌, ◌*◌, ◌&&◌, nat_lt}
use Rattle.bddl_model.specs.Truth.{Assignment}
use Rattle.bddl_model.specs.Circuit.{IsWire, holds}
use Rattle.bddl_model.specs.Growth.{Grows}
use Rattle.bddl_model.specs.Layout.{anchor_bits}
use Rattle.bddl_model.specs.Words.{word_value}
use Rattle.symbol_cell.specs.Pairs.{is_black, is_white}
use Rattle.symbol_cell.specs.Steps.{unit}
use Rattle.lifted_encode.specs.Telling.{marks_of}
use Rattle.lifted_encode.proofs.moments.mark_at.Given as goal

-- the mark of the named moment, if it is one of those so far
abbrev pub invariant-moments : goal.invariant-moments
invariant-moments l = record {
  wires : IsWire l.dag l.known.black × IsWire l.dag l.known.white;
  grows : Grows (unit (anchor_bits l.game) * l.moment) l.fn.dag l.dag;
  black : (a : Assignment) → holds l.dag l.known.black a ≡ (nat_lt (word_value l.fn.dag l.word a) l.moment && is_black (marks_of l.fn.dag l.run a (word_value l.fn.dag l.word a)));
  white : (a : Assignment) → holds l.dag l.known.white a ≡ (nat_lt (word_value l.fn.dag l.word a) l.moment && is_white (marks_of l.fn.dag l.run a (word_value l.fn.dag l.word a)));
}
