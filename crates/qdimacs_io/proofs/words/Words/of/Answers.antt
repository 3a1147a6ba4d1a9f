use Rattle.std.proofs.Common.{arith}
use Rattle.qdimacs_io.proofs.Scans.{lines_are_feeds}
use Rattle.qdimacs_io.proofs.words.Words.of.Goals as goal

pub returns-clause-last : goal.returns-clause-last
returns-clause-last c = let lines = lines_are_feeds c.args.bytes.now in omega arith
