-- How many gates a start and a step take at most.
use Rattle.std.proofs.Common.{◌≡◌, ℕ, ◌≤◌, ◌+◌, ◌*◌, All, List, length, get_or, arith, mul-le-mul_left, mul-le-mul_right}
use Rattle.std.specs.List.{sum_by}
use Rattle.std.proofs.lemmas.List.Sums.{sum_by-le}
use Rattle.bddl_model.specs.declared.game.Mark.{Mark}
use Rattle.bddl_model.specs.declared.game.Mark.TheVariants as marks
use Rattle.bddl_model.specs.declared.game.Side.{Side}
use Rattle.bddl_model.specs.declared.game.Side.TheVariants.{Black, White}
use Rattle.bddl_model.specs.Board.{Board, SizedBoard}
use Rattle.bddl_model.specs.Game.{Game, Action, actions}
use Rattle.bddl_model.specs.Layout.{anchor_bits}
use Rattle.bddl_model.specs.Limits.{AreItems, IsAction, IsBoard, IsGame}
use Rattle.bddl_model.proofs.Bits.{bits_most}
use Rattle.symbol_cell.specs.Starts.{filled, cell_gates}
use Rattle.symbol_cell.specs.Steps.{parts, unit, step_gates}

few_bits : (g : Game) → IsGame g → anchor_bits g ≤ 12
few_bits g is =
    let columns = bits_most g.width 6 is.width.1 in
    let rows = bits_most g.height 6 is.height.1 in
    omega arith

-- units for as many things, where both are few
product : (u m s n : ℕ) → u ≤ m → s ≤ n → u * s ≤ m * n
product u m s n few some =
    let first = mul-le-mul_right {m = u} {n = m} s few in
    let second = mul-le-mul_left {m = s} {n = n} m some in
    omega (arith, first, second)

few_parts : (w h : ℕ) (acts : List Action) → length acts ≤ 8 → All (IsAction w h) acts → sum_by parts acts ≤ 40
few_parts w h acts few each =
    let sum = sum_by-le parts 5 acts (λ k d lt. let is = each k d lt in omega (arith, is.effects)) in
    omega (arith, sum)

pub few_step : (g : Game) (side : Side) → IsGame g → step_gates g side ≤ 17280
few_step g Black is = product (unit (anchor_bits g)) 432 (sum_by parts g.black_actions) 40 (let few = few_bits g is in omega (arith, few)) (few_parts g.width g.height g.black_actions is.black.few_actions is.black.each_action)
few_step g White is = product (unit (anchor_bits g)) 432 (sum_by parts g.white_actions) 40 (let few = few_bits g is in omega (arith, few)) (few_parts g.width g.height g.white_actions is.white.few_actions is.white.each_action)

few_filled : (board : Board) → sum_by filled board ≤ length board * 1
few_filled board = sum_by-le filled 1 board (λ k d lt. one (get_or board k d))
  where
    one : (m : Mark) → filled m ≤ 1
    one marks.Free = omega arith
    one marks.Black = omega arith
    one marks.White = omega arith

pub few_start : (g : Game) (b : SizedBoard) → IsGame g → IsBoard b → cell_gates (anchor_bits g) * sum_by filled b.marks ≤ 114688
few_start g b is size =
    let cells = product b.height 64 b.width 64 size.height.1 size.width.1 in
    let count = few_filled b.marks in
    product (cell_gates (anchor_bits g)) 28 (sum_by filled b.marks) 4096 (let few = few_bits g is in omega (arith, few)) (omega (arith, count, cells, size.marks))
