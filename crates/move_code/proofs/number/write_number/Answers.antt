use Rattle.std.proofs.Common.{arith, rules, ◌%◌, ◌==◌, length, take, set, ap, ◌∙◌, add-one}
use Rattle.std.proofs.Math.Seq.{take-suc-set}
use Rattle.move_code.proofs.Numbers.{bits_turn}
use Rattle.move_code.proofs.number.write_number.Goals as goal

pub bits-preserved : goal.bits-preserved
bits-preserved c = record {
  same = search rules;
  done = bits_turn (length c.args.into.now) c.bits.i c.args.number c.bits.rest (take c.bits.i c.bits.into) _ (omega arith) c.bits.invariant.done (ap (λ k. take k (set c.bits.into c.bits.i (c.bits.rest % 2 == 1))) (add-one c.bits.i) ∙ take-suc-set c.bits.into c.bits.i _ (omega arith));
}
