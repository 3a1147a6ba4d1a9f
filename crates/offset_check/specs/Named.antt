-- A board that shows which cells were named: those that are not open.
use Rattle.std.specs.Prelude.{◌≡◌, true, not, List}
use Rattle.std.specs.List.{list_any}
use Rattle.bddl_model.specs.declared.game.Mark.TheVariants.{Free}
use Rattle.bddl_model.specs.declared.texts.InitAtom.{InitAtom}
use Rattle.bddl_model.specs.Board.{SizedBoard, mark_at, same_mark}
use Rattle.bddl_model.specs.Check.{same_cell}
use Rattle.bddl_model.specs.Fitting.{cell_on_board}

pub record Shows (board : SizedBoard) (cells : List InitAtom) : Type 0 where
  pub named : (a : InitAtom) → cell_on_board board.width board.height a ≡ true → list_any (same_cell a) cells ≡ not (same_mark (mark_at board.width board.marks a.x a.y) Free)
