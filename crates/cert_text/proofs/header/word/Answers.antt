use Rattle.std.proofs.lemmas.Bool.Decides.{Decides-eqb}
use Rattle.std.proofs.lemmas.Slice.Eq.{strip_prefix_is}
use Rattle.cert_text.proofs.Words.{word_found}
use Rattle.cert_text.proofs.header.word.Goals as goal

pub returns : goal.returns
returns c = word_found c.args.wanted.now c.args.bytes.now c.strip_prefix.result (strip_prefix_is Decides-eqb c.args.bytes.now c.args.wanted.now c.strip_prefix.result c.strip_prefix.ensures.cases)
