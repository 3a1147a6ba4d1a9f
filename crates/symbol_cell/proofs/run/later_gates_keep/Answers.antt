use Rattle.symbol_cell.proofs.Following.{stands_kept}
use Rattle.symbol_cell.proofs.run.later_gates_keep.Goals as goal

pub returns : goal.returns
returns c most run old new g board grows h = stands_kept g most old new grows run board h
