use Rattle.std.proofs.Common.{◌≡◌, ◌≤◌, ◌^◌, arith, subst, sym, ◌∙◌}
use Rattle.bddl_model.proofs.Bits.{bits_is}
use Rattle.move_code.proofs.number.bits.Goals as goal

pub returns-then-n-power-clause-value : goal.returns-then-n-power-clause-value
returns-then-n-power-clause-value c = bits_is c.args.n c.powers.k (subst (λ p. c.args.n ≤ p) c.powers.invariant.power c.if-n-power.true) c.powers.invariant.below

pub returns-clause-value : goal.returns-clause-value
returns-clause-value c = let e : c.powers.k ≡ 32 = omega arith in sym e ∙ bits_is c.args.n c.powers.k (subst (λ k. c.args.n ≤ 2 ^ k) (sym e) (omega arith)) c.powers.invariant.below
