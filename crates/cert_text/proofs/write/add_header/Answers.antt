use Rattle.std.proofs.Common.{rules}
use Rattle.io_edge.proofs.Added.{adds_same}
use Rattle.cert_text.proofs.Writing.{header_is}
use Rattle.cert_text.proofs.write.add_header.Goals as goal

pub returns-clause-text : goal.returns-clause-text
returns-clause-text g c = adds_same _ _ (header_is c.args.count) _ _ _ _ _ (search rules)
