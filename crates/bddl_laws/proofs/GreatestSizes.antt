-- The units and the gate limit of a game within the limits.
use Rattle.std.proofs.Common.{◌≡◌, ℕ, zero, suc, ◌≤◌, ◌+◌, ◌*◌, ◌/◌, List, length, arith}
use Rattle.std.specs.Prelude.{All, not}
use Rattle.std.specs.List.{sum_by}
use Rattle.std.proofs.lemmas.List.Sums.{sum_by-le, count_by-le-length}
use Rattle.std.proofs.lemmas.Nat.{mul-le}
use Rattle.bddl_model.specs.declared.game.Side.{Side}
use Rattle.bddl_model.specs.declared.game.Side.TheVariants.{Black, White}
use Rattle.bddl_model.specs.declared.game.Mark.TheVariants as marks
use Rattle.bddl_model.specs.Game.{Game}
use Rattle.bddl_model.specs.Board.{same_mark}
use Rattle.bddl_model.specs.Setup.{Setup}
use Rattle.bddl_model.specs.Limits.{IsGame}
use Rattle.bddl_model.specs.Layout.{anchor_bits}
use Rattle.bddl_model.specs.Size.{action_units, ply_units, plies_units, line_units, goal_units, units, units_of, gate_limit}
use Rattle.bddl_model.proofs.Bits.{bits_most}

-- ---- sums over lists of limited length

sum_within : {X : Type 0} (f : X → ℕ) (most count : ℕ) (xs : List X) → All (λ x. f x ≤ most) xs → length xs ≤ count → sum_by f xs ≤ count * most
sum_within f most count xs each few =
    let sum = sum_by-le f most xs each in
    let product = mul-le (length xs) most count most few (omega arith) in
    omega (arith, sum, product)

pub anchor_within : (g : Game) → IsGame g → anchor_bits g ≤ 12
anchor_within g is =
    let x = bits_most g.width 6 is.width.1 in
    let y = bits_most g.height 6 is.height.1 in
    omega (arith, x, y)

-- ---- units

black_ply : (g : Game) → IsGame g → ply_units g Black ≤ 112
black_ply g is = sum_within (action_units Black) 14 8 g.black_actions (λ k d lt. let a = is.black.each_action k d lt in omega (arith, a.before, a.effects)) is.black.few_actions

white_ply : (g : Game) → IsGame g → ply_units g White ≤ 192
white_ply g is = sum_within (action_units White) 24 8 g.white_actions (λ k d lt. let a = is.white.each_action k d lt in omega (arith, a.before, a.effects)) is.white.few_actions

goals_within : (g : Game) → IsGame g → goal_units g ≤ 9216
goals_within g is =
    let black = sum_within line_units 18 256 g.black_lines (λ k d lt. let l = is.black.each_line k d lt in omega (arith, l.tests)) is.black.few_lines in
    let white = sum_within line_units 18 256 g.white_lines (λ k d lt. let l = is.white.each_line k d lt in omega (arith, l.tests)) is.white.few_lines in
    omega (arith, black, white)

-- by the side that moves first
abbrev pub plies_most : Side → ℕ → ℕ → ℕ → ℕ
plies_most Black black white n = black * ((n + 1) / 2) + white * (n / 2)
plies_most White black white n = white * ((n + 1) / 2) + black * (n / 2)

plies_within : (g : Game) (first : Side) (n : ℕ) → IsGame g → plies_units g first n ≤ plies_most first 112 192 n
plies_within g Black zero is = omega arith
plies_within g White zero is = omega arith
plies_within g Black (suc n) is = let here = black_ply g is in let later = plies_within g White n is in omega (arith, here, later)
plies_within g White (suc n) is = let here = white_ply g is in let later = plies_within g Black n is in omega (arith, here, later)

-- White has one ply more than Black where it moves first
plies_at_most : (g : Game) (first : Side) (n : ℕ) → IsGame g → n ≤ 31 → plies_units g first n ≤ 4752
plies_at_most g Black n is short = omega (arith, plies_within g Black n is)
plies_at_most g White n is short = omega (arith, plies_within g White n is)

module _ (s : Setup) (is : IsGame s.game) (board : length s.board ≡ s.game.height * s.game.width) (short : s.depth ≤ 31) where
  pub units_within : units_of s ≤ 18193
  unfolding units
  units_within =
      let plies = plies_at_most s.game s.first s.depth is short in
      let goals = goals_within s.game is in
      let cells = mul-le s.game.height s.game.width 64 64 is.height.1 is.width.1 in
      let filled = count_by-le-length (λ m. not (same_mark m marks.Free)) s.board in
      omega (arith, plies, goals, cells, filled, board, short)

  pub gates_within : gate_limit s ≤ 7859376
  unfolding gate_limit
  gates_within =
      let anchor : 24 * (anchor_bits s.game + 6) ≤ 432 = omega (arith, anchor_within s.game is) in
      mul-le (24 * (anchor_bits s.game + 6)) (units_of s) 432 18193 anchor units_within
