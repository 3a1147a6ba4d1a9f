use Rattle.std.proofs.Common.{◌≡◌, ◌*◌, take, length}
use Rattle.std.specs.List.{sum_by}
use Rattle.bddl_model.specs.Truth.{Assignment}
use Rattle.bddl_model.specs.Board.{open_board}
use Rattle.bddl_model.specs.Encoding.{shown}
use Rattle.bddl_model.specs.Growth.{Grows}
use Rattle.symbol_cell.specs.Pairs.{IsPair, mark_of}
use Rattle.symbol_cell.specs.Runs.{place_named}
use Rattle.symbol_cell.specs.Starts.{filled, cell_gates}
use Rattle.symbol_cell.proofs.Starting.{made_to}
use Rattle.symbol_cell.proofs.start.put_board.Given as goal

abbrev pub invariant-cells : goal.invariant-cells
invariant-cells l = record {
  pair : IsPair l.dag l.pair;
  grows : Grows (cell_gates (length l.place) * sum_by filled (take l.cell l.board.marks)) l.fn.dag l.dag;
  shown : (a : Assignment) → mark_of l.dag l.pair a ≡ shown l.game (made_to l.cell l.board.marks (open_board l.game.width l.game.height)) (place_named l.game l.fn.dag a l.place);
}
