use Rattle.std.proofs.Common.{◌+◌, ◌*◌, ◌∷◌, [], length, length-append, sym, ap, ◌∙◌, subst, arith}
use Rattle.bddl_model.specs.Words.{AreWires}
use Rattle.bddl_model.proofs.Growth.{grows_then, grows_within}
use Rattle.bddl_model.proofs.WireWords.{word_stays}
use Rattle.bddl_model.proofs.WireItems.{item_stays, word_push}
use Rattle.bit_arith.proofs.Differences.{difference_turn, difference_end}
use Rattle.bit_arith.proofs.subtract.difference.Goals as goal

pub sum_of_three-requires-clause-left : goal.sum_of_three-requires-clause-left
sum_of_three-requires-clause-left c = item_stays (7 * c.bits.i) c.args.dag.now c.bits.dag c.args.a.now c.bits.i _ c.bits.invariant.grows c.requires.a (omega arith)

pub sum_of_three-requires-clause-right : goal.sum_of_three-requires-clause-right
sum_of_three-requires-clause-right c = c.not-opposite.ensures.wire (item_stays (7 * c.bits.i) c.args.dag.now c.bits.dag c.args.b.now c.bits.i _ c.bits.invariant.grows c.requires.b (omega arith))

pub bits-preserved : goal.bits-preserved
bits-preserved c =
    let pushed = c.in_ok-push.ensures.items in
    record {
      carry = c.in_ok-sum.ensures.wires.1;
      wires = subst (λ ws. AreWires c.sum_of_three.new.dag ws) (sym pushed) (word_push c.sum_of_three.new.dag c.bits.digits.items c.in_ok-sum.sum.digit (word_stays 7 _ _ c.bits.digits.items c.in_ok-sum.ensures.grows c.bits.invariant.wires) c.in_ok-sum.ensures.wires.0);
      length = ap length pushed ∙ length-append c.bits.digits.items (c.in_ok-sum.sum.digit ∷ []) ∙ ap (λ n. n + 1) c.bits.invariant.length;
      grows = grows_within (grows_then c.bits.invariant.grows c.in_ok-sum.ensures.grows) (omega arith);
      value = λ v. difference_turn (7 * c.bits.i) c.bits.i c.args.dag.now c.bits.dag c.sum_of_three.new.dag c.args.a.now c.args.b.now c.bits.digits.items _ _ _ c.not-opposite.result c.bits.carry c.in_ok-sum.sum.digit c.in_ok-sum.sum.carry _ v
          c.bits.invariant.grows c.requires.a c.requires.b (omega arith) (omega arith) c.in_ok-sum.ensures.grows c.bits.invariant.wires c.bits.invariant.length pushed (c.not-opposite.ensures.value v) (c.bits.invariant.value v) (c.in_ok-sum.ensures.value v);
    }

pub returns-clause-wires : goal.returns-clause-wires
returns-clause-wires c = subst (λ ws. AreWires c.bits.dag ws) (sym c.in_ok-push-2.ensures.items) (word_push c.bits.dag c.bits.digits.items c.bits.carry c.bits.invariant.wires c.bits.invariant.carry)

pub returns-clause-value : goal.returns-clause-value
returns-clause-value c v = difference_end c.args.dag.now c.bits.dag c.args.a.now c.args.b.now c.bits.digits.items _ c.bits.carry c.bits.i v (omega arith) (omega arith) c.bits.invariant.length c.in_ok-push-2.ensures.items (c.bits.invariant.value v)
