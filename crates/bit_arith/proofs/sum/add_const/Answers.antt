use Rattle.std.proofs.Common.{◌≡◌, ℕ, ◌≤◌, ◌+◌, ◌*◌, ◌-◌, ◌^◌, ◌%◌, ℤ, pos, ◌+ℤ◌, arith, refl, sym, ap, ◌∙◌}
use Rattle.std.specs.Int.{int_rem_euclid}
use Rattle.std.proofs.lemmas.Int.{int_rem_euclid_is, ints}
use Rattle.std.proofs.lemmas.Nat.{pow-add}
use Rattle.std.proofs.lemmas.Result.{IfOk-weaker}
use Rattle.std.proofs.Math.Nat.{one-le-pow}
use Rattle.bddl_model.specs.Words.{word_value}
use Rattle.bit_arith.proofs.sum.add_const.Goals as goal

-- 65,536 is 0 modulo each of these powers of two
modulo_power : (n w m : ℕ) (k : ℤ) → w ≤ 16 → pos m ≡ k +ℤ pos 65536 → int_rem_euclid (pos n +ℤ k) (pos (2 ^ w)) ≡ pos ((n + m) % 2 ^ w)
modulo_power n w m k h e =
    let sixteen : 16 - w + w ≡ 16 = omega arith in
    let whole : 2 ^ (16 - w) * 2 ^ w ≡ 65536 = sym (pow-add 2 (16 - w) w) ∙ ap (λ i. 2 ^ i) sixteen in
    int_rem_euclid_is (pos n +ℤ k) (pos (2 ^ w)) (2 ^ w) (2 ^ (16 - w)) (n + m) (one-le-pow w 2 (omega arith)) refl (ap (λ x. (pos n +ℤ k) +ℤ pos x) whole ∙ omega (arith, ints, e))

pub returns-clause-value : goal.returns-clause-value
returns-clause-value c = IfOk-weaker c.add.result _ _
    (λ ws h v. ap pos (h v) ∙ sym (modulo_power (word_value c.args.dag.now c.args.a.now v) c.args.width _ c.args.k c.requires.width.1 (omega (arith, ints, c.requires.number))))
    c.add.ensures.value
