use Rattle.std.proofs.Common.{arith, ◌+◌, ◌*◌, ap, sym, ◌∙◌, false, get_or, length, length-append, ◌∷◌, [], subst}
use Rattle.std.proofs.lemmas.List.{length-map}
use Rattle.bddl_model.specs.Circuit.{holds}
use Rattle.bddl_model.specs.Words.{AreWires, word_bits}
use Rattle.bddl_model.proofs.Growth.{grows_then, grows_within}
use Rattle.bddl_model.proofs.WireWords.{word_stays, word_kept}
use Rattle.bddl_model.proofs.WireItems.{word_push}
use Rattle.bit_arith.proofs.Adding.{sum_end}
use Rattle.bit_arith.proofs.Turns.{sum_word_turn}
use Rattle.bit_arith.proofs.sum.add.Goals as goal

pub bit_of-bit-requires : goal.bit_of-bit-requires
bit_of-bit-requires c = word_stays (3 * c.bits.i) _ _ c.args.a.now c.bits.invariant.grows c.requires.a

pub bits-preserved : goal.bits-preserved
bits-preserved c =
    let pushed = c.in_ok-push.ensures.items in
    record {
      carry = c.in_ok-sum.ensures.wires.1;
      wires = subst (λ ws. AreWires c.sum_of.new.dag ws) (sym pushed) (word_push c.sum_of.new.dag c.bits.digits.items c.in_ok-sum.sum.digit (word_stays 3 _ _ c.bits.digits.items c.in_ok-sum.ensures.grows c.bits.invariant.wires) c.in_ok-sum.ensures.wires.0);
      length = ap length pushed ∙ length-append c.bits.digits.items (c.in_ok-sum.sum.digit ∷ []) ∙ ap (λ n. n + 1) c.bits.invariant.length;
      grows = grows_within (grows_then c.bits.invariant.grows c.in_ok-sum.ensures.grows) (omega arith);
      value = λ v. sum_word_turn 3 c.bits.i c.bits.dag c.sum_of.new.dag c.bits.digits.items _ c.bit_of-bit.result c.bits.carry c.in_ok-sum.sum.digit c.in_ok-sum.sum.carry (word_bits c.args.dag.now c.args.a.now v) _ c.bits.rest v
          c.in_ok-sum.ensures.grows c.bits.invariant.wires c.bits.invariant.length pushed
          (c.bit_of-bit.ensures.value v ∙ ap (λ bs. get_or bs c.bits.i false) (word_kept (3 * c.bits.i) _ _ c.args.a.now v c.bits.invariant.grows c.requires.a))
          (c.bits.invariant.value v) (c.in_ok-sum.ensures.value v);
    }

pub returns-clause-value : goal.returns-clause-value
returns-clause-value c v = sum_end (word_bits c.bits.dag c.bits.digits.items v) c.args.width c.bits.i _ _ (omega arith) (length-map c.bits.digits.items (λ w. holds c.bits.dag w v) ∙ c.bits.invariant.length) (c.bits.invariant.value v)
