-- The digits of a trail never fall by a push and rise by a flip, and they pay for each step.
use Rattle.std.proofs.Common.{◌≡◌, ℕ, zero, suc, ◌≤◌, ◌<◌, ◌+◌, ◌*◌, ◌^◌, true, false, [], ◌∷◌, ◌++◌, length, mul-le-mul_right, arith, pow-suc}
use Rattle.std.proofs.lemmas.Grind.{pow_more}
use Rattle.std.proofs.lemmas.Nat.{pow_pos}
use Rattle.std.proofs.Math.Nat.{mul_comm}
use Rattle.bddl_model.specs.Truth.{Formula}
use Rattle.bddl_model.specs.Bounds.{steps_bound, bound, before_tail}
use Rattle.bddl_model.specs.TrailDigits.{Digits, digits_number, steps_paid}

-- ---- the number of the digits

pub digits_below : (places : ℕ) (digits : Digits) → digits_number places digits < 2 ^ places
digits_below zero digits = omega arith
digits_below (suc places) [] = rw (pow-suc 2 places) (omega (arith, digits_below places []))
digits_below (suc places) (true ∷ digits) = rw (pow-suc 2 places) (omega (arith, digits_below places digits))
digits_below (suc places) (false ∷ digits) = rw (pow-suc 2 places) (omega (arith, digits_below places digits))

pub push_never_lowers : (places : ℕ) (front more : Digits) → digits_number places front ≤ digits_number places (front ++ more)
push_never_lowers zero front more = omega arith
push_never_lowers (suc places) [] more = omega arith
push_never_lowers (suc places) (true ∷ front) more = omega (arith, push_never_lowers places front more)
push_never_lowers (suc places) (false ∷ front) more = push_never_lowers places front more

-- whatever stood behind
pub flip_raises : (places : ℕ) (front behind : Digits) → length front < places → digits_number places (front ++ false ∷ behind) < digits_number places (front ++ true ∷ [])
flip_raises zero front behind lt = absurd (omega arith)
flip_raises (suc places) [] behind lt = omega (arith, digits_below places behind)
flip_raises (suc places) (true ∷ front) behind lt = omega (arith, flip_raises places front behind (omega arith))
flip_raises (suc places) (false ∷ front) behind lt = flip_raises places front behind (omega arith)

-- ---- the steps that they pay for

pub push_is_paid : (places variables start used entries : ℕ) (front more : Digits)
    → used ≤ start + steps_paid places variables front entries
    → used + 1 ≤ start + steps_paid places variables (front ++ more) (entries + 1)
unfolding steps_paid
push_is_paid places variables start used entries front more paid =
    let most : digits_number places front * variables ≤ digits_number places (front ++ more) * variables = mul-le-mul_right variables (push_never_lowers places front more) in
    omega (arith, paid, most)

-- the number rises by one at least, and that pays for all entries that the trail had
pub flip_is_paid : (places variables start used entries kept : ℕ) (front behind : Digits)
    → length front < places → entries ≤ variables
    → used ≤ start + steps_paid places variables (front ++ false ∷ behind) entries
    → used + 1 ≤ start + steps_paid places variables (front ++ true ∷ []) (kept + 1)
unfolding steps_paid
flip_is_paid places variables start used entries kept front behind lt few paid =
    let higher = flip_raises places front behind lt in
    let most : (digits_number places (front ++ false ∷ behind) + 1) * variables ≤ digits_number places (front ++ true ∷ []) * variables = mul-le-mul_right variables (omega (arith, higher)) in
    omega (arith, paid, few, most)

pub paid_at_most : (places variables start used entries : ℕ) (digits : Digits)
    → entries ≤ variables → used ≤ start + steps_paid places variables digits entries → used ≤ start + 2 ^ places * variables
unfolding steps_paid
paid_at_most places variables start used entries digits few paid =
    let below = digits_below places digits in
    let most : (digits_number places digits + 1) * variables ≤ 2 ^ places * variables = mul-le-mul_right variables (omega (arith, below)) in
    omega (arith, paid, few, most)

within_steps_bound : (places variables : ℕ) → 2 ^ places * variables < steps_bound variables places
unfolding steps_bound
within_steps_bound places variables =
    let some = pow_pos places in
    rw (pow_more 2 places) (let turned : variables * 2 ^ places ≡ 2 ^ places * variables = mul_comm variables (2 ^ places) in omega (arith, some, turned))

pub paid_below_bound : (f : Formula) (start used entries : ℕ) (digits : Digits)
    → entries ≤ length f.prefix → used ≤ start + steps_paid (before_tail f) (length f.prefix) digits entries → used < start + bound f
unfolding bound
paid_below_bound f start used entries digits few paid =
    let most = paid_at_most (before_tail f) (length f.prefix) start used entries digits few paid in
    omega (arith, most, within_steps_bound (before_tail f) (length f.prefix))
