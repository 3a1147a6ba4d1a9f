use Rattle.std.proofs.Common.{◌-◌, ◌≤◌, vec_len}
use Rattle.io_edge.proofs.file_shelf.read_file.Given as goal

abbrev pub invariant-pieces : goal.invariant-pieces
invariant-pieces g l = vec_len l.into ≤ l.limit

abbrev pub decreases-pieces : goal.decreases-pieces
decreases-pieces g l = l.limit - vec_len l.into
