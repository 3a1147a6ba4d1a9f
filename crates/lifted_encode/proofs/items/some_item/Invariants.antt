use Rattle.std.proofs.Common.{◌≡◌, ◌*◌, ◌&&◌, nat_lt, take, length, slice_get}
use Rattle.std.specs.List.{sum_by}
use Rattle.bddl_model.specs.Truth.{Assignment}
use Rattle.bddl_model.specs.Circuit.{IsWire, holds}
use Rattle.bddl_model.specs.Growth.{Grows}
use Rattle.bddl_model.specs.Words.{word_value}
use Rattle.symbol_cell.specs.Steps.{unit}
use Rattle.lifted_encode.specs.Asking.{question, here_of}
use Rattle.lifted_encode.specs.Chosen.{items_of, item_meets, item_parts}
use Rattle.lifted_encode.proofs.items.some_item.Given as goal

-- the chosen item meets what is asked, if it is one of those so far
abbrev pub invariant-items : goal.invariant-items
invariant-items l = record {
  wire : IsWire l.dag l.known;
  grows : Grows (unit (length l.spot.cells.place.now) * sum_by item_parts (take l.number (items_of l.game l.items))) l.fn.dag l.dag;
  value : (a : Assignment) → holds l.dag l.known a
      ≡ (nat_lt (word_value l.fn.dag l.word a) l.number && item_meets l.game (slice_get (items_of l.game l.items) (word_value l.fn.dag l.word a)) (question l.fn.dag l.asked a) (here_of l.fn.dag l.spot a));
}
