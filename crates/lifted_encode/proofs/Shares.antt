-- The parts of a circuit are fewer than the units of its game, so its gates keep to the limit.
use Rattle.std.proofs.Common.{◌≡◌, ℕ, zero, suc, ◌≤◌, ◌<◌, ◌+◌, ◌*◌, not, if◌then◌else◌, List, [], ◌∷◌, map, sym, subst, arith, mul-le-mul_left, mul-add, mul-one}
use Rattle.std.specs.List.{sum_by}
use Rattle.std.proofs.Math.Nat.{mul-le-mul_right}
use Rattle.std.proofs.lemmas.List.Sums.{sum_by-cons, sum_by-le-sum_by}
use Rattle.bddl_model.specs.declared.game.Mark.{Mark}
use Rattle.bddl_model.specs.declared.game.Mark.TheVariants as marks
use Rattle.bddl_model.specs.declared.game.Side.{Side}
use Rattle.bddl_model.specs.declared.game.Side.TheVariants.{Black, White}
use Rattle.bddl_model.specs.declared.game.Test.{Test}
use Rattle.bddl_model.specs.Board.{Board, same_mark}
use Rattle.bddl_model.specs.Game.{Game, Action, opponent}
use Rattle.bddl_model.specs.Layout.{Inputs, Sizes, anchor_bits, sizes_of, ply_at, plies_at, layout, end}
use Rattle.bddl_model.specs.Size.{action_units, ply_units, plies_units, line_units, filled_cells, units, gate_limit}
use Rattle.symbol_cell.specs.Starts.{filled, cell_gates}
use Rattle.symbol_cell.specs.Steps.{unit, parts}
use Rattle.lifted_encode.specs.Chosen.{of_action, of_line, item_parts}
use Rattle.lifted_encode.specs.Encoded.{setup_of}
use Rattle.lifted_encode.specs.Followed.{step_parts, run_parts}
use Rattle.lifted_encode.specs.Joined.{condition_parts}
use Rattle.lifted_encode.specs.Telling.{own_parts, refused_parts}

-- ---- sums over actions and lines

-- an action of Black's ply is written and tested once
black_actions : (acts : List Action) → sum_by parts acts + sum_by item_parts (map of_action acts) ≤ sum_by (action_units Black) acts
black_actions [] = omega arith
black_actions (a ∷ acts) =
    let written = sum_by-cons parts a acts in
    let tested = sum_by-cons item_parts (of_action a) (map of_action acts) in
    let counted = sum_by-cons (action_units Black) a acts in
    let later = black_actions acts in
    omega (arith, written, tested, counted, later)

-- one of White's is tested twice, as a sample and as a code
white_actions : (acts : List Action) → sum_by parts acts + 2 * sum_by item_parts (map of_action acts) ≤ sum_by (action_units White) acts
white_actions [] = omega arith
white_actions (a ∷ acts) =
    let written = sum_by-cons parts a acts in
    let tested = sum_by-cons item_parts (of_action a) (map of_action acts) in
    let counted = sum_by-cons (action_units White) a acts in
    let later = white_actions acts in
    omega (arith, written, tested, counted, later)

few_lines : (lines : List (List Test)) → sum_by item_parts (map of_line lines) ≤ sum_by line_units lines
few_lines [] = omega arith
few_lines (l ∷ lines) =
    let tested = sum_by-cons item_parts (of_line l) (map of_line lines) in
    let counted = sum_by-cons line_units l lines in
    let later = few_lines lines in
    omega (arith, tested, counted, later)

few_filled : (board : Board) → sum_by filled board ≤ filled_cells board
few_filled board = sum_by-le-sum_by filled _ board one
  where
    one : (m : Mark) → filled m ≤ (if not (same_mark m marks.Free) then 1 else 0)
    one marks.Free = omega arith
    one marks.Black = omega arith
    one marks.White = omega arith

-- ---- plies

module _ (g : Game) (z : Sizes) where
  few_in_ply : (side : Side) (v : ℕ) → step_parts g (ply_at z side v) + own_parts g (ply_at z side v) + refused_parts g (ply_at z side v) ≤ ply_units g side + 2
  few_in_ply Black v = omega (arith, black_actions g.black_actions)
  few_in_ply White v = omega (arith, white_actions g.white_actions)

  few_in_plies : (n : ℕ) (side : Side) (v : ℕ)
      → sum_by (step_parts g) (plies_at z n side v) + sum_by (own_parts g) (plies_at z n side v) + sum_by (refused_parts g) (plies_at z n side v) ≤ plies_units g side n + 2 * n
  few_in_plies zero side v = omega arith
  few_in_plies (suc n) side v =
      let p = ply_at z side v in
      let rest = plies_at z n (opponent side) (end p.code) in
      let written = sum_by-cons (step_parts g) p rest in
      let own = sum_by-cons (own_parts g) p rest in
      let refused = sum_by-cons (refused_parts g) p rest in
      let here = few_in_ply side v in
      let later = few_in_plies n (opponent side) (end p.code) in
      omega (arith, written, own, refused, here, later)

-- ---- all parts

module _ (g : Game) (board : Board) (first : Side) (depth : ℕ) where
  few_in_layout : run_parts g board (layout g first depth).plies + condition_parts g depth (layout g first depth).plies + 1 ≤ units g board first depth
  unfolding units
  few_in_layout =
      let plies = few_in_plies g (sizes_of g depth) depth first 1 in
      let black = few_lines g.black_lines in
      let white = few_lines g.white_lines in
      let start = few_filled board in
      omega (arith, plies, black, white, start)

-- a unit for each part, and one gate more
times : (u n m : ℕ) → 1 ≤ u → n + 1 ≤ m → u * n + 1 ≤ u * m
times u n m some few =
    let more = mul-le-mul_left {m = n + 1} {n = m} u few in
    let one = mul-add u n 1 in
    let same = mul-one u in
    omega (arith, more, one, same, some)

module _ (g : Game) (board : Board) (first : Side) (depth : ℕ) (l : Inputs) where
  parts_are_few : l ≡ layout g first depth → run_parts g board l.plies + condition_parts g depth l.plies + 1 ≤ units g board first depth
  parts_are_few laid = subst (λ m. run_parts g board m.plies + condition_parts g depth m.plies + 1 ≤ units g board first depth) (sym laid) (few_in_layout g board first depth)

  pub gates_are_few : l ≡ layout g first depth → unit (anchor_bits g) * (run_parts g board l.plies + condition_parts g depth l.plies) + 1 ≤ gate_limit (setup_of g board first depth)
  unfolding gate_limit
  gates_are_few laid = times (unit (anchor_bits g)) (run_parts g board l.plies + condition_parts g depth l.plies) (units g board first depth) (omega arith) (parts_are_few laid)

-- ---- what parts take, added up

pub split_gates : (u x y : ℕ) → u * (x + y) ≡ u * x + u * y
split_gates u x y = grind arith

pub more : (u i : ℕ) → u * (i + 1) ≡ u * i + u
more u i = grind arith

pub share : (u i n : ℕ) → i < n → u * i + u ≤ u * n
share u i n lt = let step = mul-le-mul_left {m = i + 1} {n = n} u (omega arith) in omega (arith, more u i, step)

-- the start's gates are within its parts, and leave those of the steps
pub start_within : (b cells steps : ℕ) → cell_gates b * cells + unit b * steps ≤ unit b * (cells + steps)
start_within b cells steps = let few = mul-le-mul_right {m = cell_gates b} {n = unit b} cells (omega arith) in omega (arith, few, split_gates (unit b) cells steps)
