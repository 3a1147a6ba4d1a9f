use Rattle.std.proofs.Common.{rules, arith, sym, ◌∙◌}
use Rattle.std.proofs.lemmas.Bool.{le-leb}
use Rattle.bit_arith.proofs.ShortWords.{short_word}
use Rattle.bit_arith.proofs.compare.at_most.Goals as goal

pub returns-then-k-ge65535 : goal.returns-then-k-ge65535
returns-then-k-ge65535 c = record {
  wire = c.truth.ensures.wire;
  value = λ v. c.truth.ensures.value v ∙ sym (le-leb _ c.args.k (omega (arith, short_word c.args.dag.now c.args.a.now v c.requires.short)));
  grows = search rules;
}
