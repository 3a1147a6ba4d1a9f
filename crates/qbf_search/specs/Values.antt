-- The values of variables in a table, as an assignment.
use Rattle.std.specs.Prelude.{Bool, false, List, slice_index_or}
use Rattle.bddl_model.specs.Truth.{Assignment}

-- a variable past the end counts as false
abbrev pub assignment : List Bool → Assignment
assignment values v = slice_index_or values v false
