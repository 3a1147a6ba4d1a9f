use Rattle.std.proofs.Common.{◌+◌, [], ◌∷◌, length, length-append, sym, ap, ◌∙◌, subst}
use Rattle.bddl_model.specs.Words.{AreWires}
use Rattle.bddl_model.proofs.WireItems.{word_push}
use Rattle.part_tests.proofs.wires.word.Goals as goal

pub bits-preserved : goal.bits-preserved
bits-preserved c = record {
  wires = subst (λ ws. AreWires c.args.dag.now ws) (sym c.in_ok-push.ensures.items) (word_push c.args.dag.now c.bits.wires.items c.bit.result c.bits.invariant.wires c.bit.ensures);
  length = ap length c.in_ok-push.ensures.items ∙ length-append c.bits.wires.items (c.bit.result ∷ []) ∙ ap (λ n. n + 1) c.bits.invariant.length;
}
