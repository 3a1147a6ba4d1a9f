use Rattle.std.proofs.Common.{◌≡◌, ◌*◌, ◌&&◌, drop, length}
use Rattle.bddl_model.specs.Truth.{Assignment}
use Rattle.bddl_model.specs.Circuit.{IsWire, holds}
use Rattle.bddl_model.specs.Growth.{Grows}
use Rattle.symbol_cell.specs.Steps.{unit}
use Rattle.lifted_encode.specs.Asking.{question, here_of, meet_from}
use Rattle.lifted_encode.proofs.asked.all_meet.Given as goal

abbrev pub invariant-tests : goal.invariant-tests
invariant-tests l = record {
  wire : IsWire l.dag l.all;
  grows : Grows (unit (length l.spot.cells.place.now) * l.number) l.fn.dag l.dag;
  value : (a : Assignment) → (holds l.dag l.all a && meet_from (question l.fn.dag l.asked a) l.number (here_of l.fn.dag l.spot a) (drop l.number l.tests))
      ≡ meet_from (question l.fn.dag l.asked a) 0 (here_of l.fn.dag l.spot a) l.tests;
}
