-- A form with few variables behind its inputs, all of them in its tail, has at most its game's bound.
use Rattle.std.proofs.Common.{◌≡◌, ℕ, ◌≤◌, ◌+◌, ◌^◌, true, length, drop, length-drop, arith}
use Rattle.std.proofs.lemmas.Bool.{leb-true}
use Rattle.std.proofs.lemmas.Nat.{mul-le}
use Rattle.std.proofs.Math.Nat.{pow-le-pow_right}
use Rattle.bddl_model.specs.Truth.{Formula}
use Rattle.bddl_model.specs.Setup.{Setup}
use Rattle.bddl_model.specs.Size.{inputs_of, gate_limit, is_small}
use Rattle.bddl_model.specs.Tail.{tail_length}
use Rattle.bddl_model.specs.Bounds.{steps_bound, bound, before_tail, game_bound}

pub steps_bound-monotone : (v w d e : ℕ) → v ≤ w → d ≤ e → steps_bound v d ≤ steps_bound w e
unfolding steps_bound
steps_bound-monotone v w d e few low =
    let power : 2 ^ (d + 1) ≤ 2 ^ (e + 1) = pow-le-pow_right {n = 2} (omega arith) (omega arith) in
    mul-le (v + 1) (2 ^ (d + 1)) (w + 1) (2 ^ (e + 1)) (omega arith) power

pub small_form_bound : (f : Formula) (s : Setup) → is_small f s ≡ true → length f.prefix ≤ inputs_of s + tail_length f → bound f ≤ game_bound s
unfolding bound game_bound is_small
small_form_bound f s small tail =
    let most : length (drop (inputs_of s) f.prefix) ≤ gate_limit s = leb-true (length (drop (inputs_of s) f.prefix)) (gate_limit s) small in
    let rest = length-drop (inputs_of s) f.prefix in
    steps_bound-monotone (length f.prefix) (inputs_of s + gate_limit s) (before_tail f) (inputs_of s) (omega (arith, most, rest)) (omega (arith, tail))
