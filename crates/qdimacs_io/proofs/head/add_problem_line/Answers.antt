use Rattle.std.proofs.Common.{rules}
use Rattle.io_edge.proofs.Added.{adds_same}
use Rattle.qdimacs_io.proofs.Lines.{head_is}
use Rattle.qdimacs_io.proofs.head.add_problem_line.Goals as goal

pub returns-clause-text : goal.returns-clause-text
returns-clause-text g c = adds_same _ _ (head_is c.args.variables c.args.clauses) _ _ _ _ _ (search rules)
