use Rattle.std.proofs.Common.{◌≡◌, ℕ, ◌<◌, ◌^◌}
use Rattle.move_code.proofs.number.bits.Given as goal

abbrev pub invariant-powers : goal.invariant-powers
invariant-powers l = record {
  power : l.power ≡ 2 ^ l.k;
  below : (i : ℕ) → i < l.k → 2 ^ i < l.fn.n;
}
