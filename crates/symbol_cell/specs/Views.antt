-- What contracts see of a step.
use Rattle.symbol_cell.specs.declared.pair.Pair.{Pair}
use Rattle.symbol_cell.specs.declared.run.Step.{Step}
use Rattle.symbol_cell.specs.Runs.{Ply}

abbrev pub ply_of : Step → Ply
ply_of s = record { side = s.side; code = s.code.items }

abbrev pub pair_of : Step → Pair
pair_of s = s.pair
