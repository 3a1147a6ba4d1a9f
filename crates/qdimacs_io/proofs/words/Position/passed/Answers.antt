use Rattle.std.proofs.Common.{refl, arith}
use Rattle.qdimacs_io.proofs.Scans.{comment_gone}
use Rattle.qdimacs_io.proofs.words.Position.passed.Goals as goal

pub returns-then-self-clause-gap : goal.returns-then-self-clause-gap
returns-then-self-clause-gap c =
    let gone = comment_gone c.args.self.now.fresh c.args.self.now.line c.line_len.result c.args.self.now.rest.now _ c.if-self.true c.in-len1-up.len_at_least c.if-byte-eq99.true refl c.line_len.ensures.len in
    record { words = gone.0; last = gone.1; shorter = gone.2; fits = (let short = gone.2 in omega arith) }
