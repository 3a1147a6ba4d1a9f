use Rattle.std.proofs.Common.{◌≡◌, ◌*◌, take}
use Rattle.std.specs.List.{sum_by}
use Rattle.bddl_model.specs.Board.{Board as Marks}
use Rattle.bddl_model.specs.Growth.{Grows}
use Rattle.bddl_model.specs.Layout.{anchor_bits}
use Rattle.symbol_cell.specs.Runs.{Stands}
use Rattle.symbol_cell.specs.Steps.{unit}
use Rattle.lifted_encode.specs.Followed.{CarryPlies, step_parts}
use Rattle.lifted_encode.proofs.run.follow_plies.Given as goal

abbrev pub invariant-plies : goal.invariant-plies
invariant-plies l = record {
  plies : CarryPlies l.dag (take l.number l.plies) l.run.plies;
  place : l.run.place ≡ l.fn.run.place;
  stands : (board : Marks) → Stands l.fn.run l.fn.dag l.game board → Stands l.run l.dag l.game board;
  grows : Grows (unit (anchor_bits l.game) * sum_by (step_parts l.game) (take l.number l.plies)) l.fn.dag l.dag;
}
