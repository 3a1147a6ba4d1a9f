-- One action more of a side, and room for all.
use Rattle.std.proofs.Common.{◌≡◌, ℕ, zero, suc, ◌+◌, ◌-◌, ◌*◌, ◌≤◌, ◌<◌, Bool, List, ◌++◌, length, sym, ap, ◌∙◌, append_assoc, length-append, arith}
use Rattle.std.specs.Prelude.{filter}
use Rattle.std.proofs.Math.Nat.{mul-le-mul}
use Rattle.std.proofs.lemmas.List.Elements.{filter-append}
use Rattle.std.proofs.lemmas.List.FromFn.{length-map-range_with_len}
use Rattle.bddl_model.specs.declared.game.Move.{Move}
use Rattle.bddl_model.specs.Game.{Game, greatest_side}
use Rattle.grid_game.specs.Listed.{move_at, row_moves, action_moves, actions_moves}
use Rattle.grid_game.proofs.MoveRanges.{few_pass}

pub action_joins : (p : Move → Bool) (g : Game) (action n : ℕ) (done grown : List Move) → action < n → grown ≡ done ++ filter p (action_moves g action 1 g.height)
    → grown ++ filter p (actions_moves g (action + 1) (n - (action + 1))) ≡ done ++ filter p (actions_moves g action (n - action))
action_joins p g action n done grown has listed =
    let first = action_moves g action 1 g.height in
    let rest = actions_moves g (action + 1) (n - (action + 1)) in
    let more : suc (n - (action + 1)) ≡ n - action = omega arith in
    ap (λ (l : List Move). l ++ filter p rest) listed
    ∙ append_assoc done (filter p first) (filter p rest)
    ∙ ap (λ (l : List Move). done ++ l) (sym (filter-append p first rest) ∙ ap (λ k. filter p (actions_moves g action k)) more)

-- ---- room for the actions that are left

length-action_moves : (g : Game) (action y n : ℕ) → length (action_moves g action y n) ≡ n * g.width
length-action_moves g action y zero = omega arith
length-action_moves g action y (suc n) =
    let row : length (row_moves action y 1 g.width) ≡ g.width = length-map-range_with_len (move_at action y) 1 g.width in
    let all : suc n * g.width ≡ g.width + n * g.width = omega arith in
    omega (arith, length-append (row_moves action y 1 g.width) (action_moves g action (y + 1) n), length-action_moves g action (y + 1) n)

pub action_is_short : (p : Move → Bool) (g : Game) (action y n : ℕ) (done : List Move) → length (done ++ filter p (action_moves g action y n)) ≤ length done + n * g.width
action_is_short p g action y n done =
    omega (arith, length-append done (filter p (action_moves g action y n)), few_pass p (action_moves g action y n), length-action_moves g action y n)

-- eight actions on the greatest board
pub few_moves : (actions width height : ℕ) → actions ≤ 8 → width ≤ greatest_side → height ≤ greatest_side
    → (actions * width ≤ 8 * greatest_side) × (actions * width * height ≤ 8 * greatest_side * greatest_side)
few_moves actions width height few narrow low =
    let row : actions * width ≤ 8 * greatest_side = mul-le-mul few narrow in
    (row, mul-le-mul row low)
