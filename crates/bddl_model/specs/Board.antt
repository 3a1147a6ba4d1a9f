-- Boards: a list of marks, row after row. Cells are counted from 1.
use Rattle.std.specs.Prelude.{ℕ, ◌+◌, ◌*◌, ◌-◌, Bool, true, false, List, replicate, slice_set}
use Rattle.std.specs.List.{slice_index_or}
use Rattle.bddl_model.specs.declared.game.Mark.{Mark}
use Rattle.bddl_model.specs.declared.game.Mark.TheVariants.{Free, Black, White}

abbrev pub Board : Type 0
Board = List Mark

-- a board with its sides
pub record SizedBoard : Type 0 where
  pub width : ℕ
  pub height : ℕ
  pub marks : Board

-- where the cell in column x and row y of a board of this width stands in the list
abbrev pub index : ℕ → ℕ → ℕ → ℕ
index width x y = (y - 1) * width + (x - 1)

abbrev pub mark_at : ℕ → Board → ℕ → ℕ → Mark
mark_at width board x y = slice_index_or board (index width x y) Free

abbrev pub with_mark : ℕ → Board → ℕ → ℕ → Mark → Board
with_mark width board x y mark = slice_set board (index width x y) mark

abbrev pub open_board : ℕ → ℕ → Board
open_board width height = replicate (height * width) Free

abbrev pub same_mark : Mark → Mark → Bool
same_mark Free Free = true
same_mark Black Black = true
same_mark White White = true
same_mark _ _ = false
