use Rattle.std.proofs.Common.{◌≡◌, true, [], take, drop}
use Rattle.std.specs.List.{list_all}
use Rattle.bddl_model.specs.Check.{first_of, each_cell}
use Rattle.bddl_model.specs.Setup.{marked}
use Rattle.bddl_model.specs.Fitting.{cell_on_board}
use Rattle.offset_check.specs.Named.{Shows}
use Rattle.offset_check.proofs.CellCounts.{cells_apart}
use Rattle.offset_check.proofs.cells.mark_cells.Given as goal

-- those that were marked have no fault, and are shown; what is left leads to the first fault and to the whole board
abbrev pub invariant-loop-i : goal.invariant-loop-i
invariant-loop-i l = record {
  on_board : list_all (cell_on_board l.width l.height) (take l.i l.cells) ≡ true;
  apart : cells_apart (take l.i l.cells) ≡ true;
  fault : first_of (each_cell l.width l.height (take l.i l.cells) (drop l.i l.cells)) ≡ first_of (each_cell l.width l.height [] l.cells);
  named_width : l.named.width ≡ l.width;
  named_height : l.named.height ≡ l.height;
  shows : Shows l.named (take l.i l.cells);
  width : l.board.width ≡ l.width;
  height : l.board.height ≡ l.height;
  marks : marked l.width (drop l.i l.cells) l.board.marks ≡ marked l.width l.cells l.fn.board.marks;
}
