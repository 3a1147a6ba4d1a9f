-- The steps for all places of a certificate are within its bound.
use Rattle.std.proofs.Common.{◌≡◌, ℕ, zero, suc, ◌≤◌, ◌+◌, ◌*◌, ◌/◌, ◌^◌, List, [], ◌∷◌, length, length-append, cond, ◌⊎◌, inl, inr, ⊎_elim, refl, sym, ap, ◌∙◌, subst, arith, pow-suc}
use Rattle.std.specs.Prelude.{not, replicate, flat_map}
use Rattle.std.proofs.lemmas.Bool.{cases_eq}
use Rattle.std.specs.List.{range_with_len}
use Rattle.std.specs.Int.{sum_through}
use Rattle.std.proofs.lemmas.List.Sums.{length-filter, count_by-le-length}
use Rattle.std.proofs.lemmas.List.FromFn.{length-range_with_len, length-map-range_with_len}
use Rattle.std.proofs.lemmas.List.Recursion.{is_count_by}
use Rattle.std.proofs.Math.Nat.{mul-le-mul_left, mul-le-mul_right, pow-zero}
use Rattle.bddl_model.specs.declared.game.Side.{Side}
use Rattle.bddl_model.specs.declared.game.Side.TheVariants.{Black, White}
use Rattle.bddl_model.specs.declared.game.Mark.TheVariants as marks
use Rattle.bddl_model.specs.declared.game.Test.{Test}
use Rattle.bddl_model.specs.Bits.{bits}
use Rattle.bddl_model.specs.Board.{Board, same_mark}
use Rattle.bddl_model.specs.Certificate.{Place}
use Rattle.bddl_model.specs.Game.{Game, actions, opponent, side_after}
use Rattle.bddl_model.specs.Layout.{Sizes, anchor_bits, where_lines, sizes_of, plies_end, layout}
use Rattle.bddl_model.specs.Moves.{moves, all_moves, legal}
use Rattle.bddl_model.specs.Setup.{Setup}
use Rattle.bddl_model.specs.Size.{inputs_of, plies_units, filled_cells, units, gate_limit}
use Rattle.bddl_model.specs.Bounds.{game_bound, filled, most_replies, certify_bound}
use Rattle.bddl_model.proofs.Bits.{bits_most, bits_enough}
use Rattle.bddl_laws.specs.PlaceCosts.{MayBeMet, begun_at, tree_cost, cost_at}
use Rattle.bddl_laws.proofs.FormBounds.{steps_bound-monotone}

-- ---- the inputs of what is left

bits_monotone : (n m : ℕ) → n ≤ m → bits n ≤ bits m
bits_monotone n m le = let enough = bits_enough m in bits_most n (bits m) (omega (arith, le, enough))

where_lines_monotone : (lines : List (List Test)) (n m : ℕ) → n ≤ m → where_lines lines n ≤ where_lines lines m
where_lines_monotone [] n m le = omega arith
where_lines_monotone (l ∷ ls) n m le = le

plies_end_monotone : (z y : Sizes) (n : ℕ) (side : Side) (v w : ℕ) → z.black_code ≡ y.black_code → z.white_code ≡ y.white_code → v ≤ w → plies_end z n side v ≤ plies_end y n side w
plies_end_monotone z y zero side v w black white le = le
plies_end_monotone z y (suc n) Black v w black white le = plies_end_monotone z y n White (v + z.black_code) (w + y.black_code) black white (omega (arith, black, le))
plies_end_monotone z y (suc n) White v w black white le = plies_end_monotone z y n Black (v + z.white_code + z.white_code) (w + y.white_code + y.white_code) black white (omega (arith, white, le))

one_ply_longer : (g : Game) (n : ℕ) (side : Side) → plies_end (sizes_of g n) n (opponent side) 1 ≤ plies_end (sizes_of g (suc n)) (suc n) side 1
one_ply_longer g n Black = plies_end_monotone (sizes_of g n) (sizes_of g (suc n)) n White 1 _ refl refl (omega arith)
one_ply_longer g n White = plies_end_monotone (sizes_of g n) (sizes_of g (suc n)) n Black 1 _ refl refl (omega arith)

abbrev inputs_from : Game → Side → ℕ → ℕ
inputs_from g side n = (layout g side n).inputs

inputs_behind : (g : Game) (n : ℕ) (side : Side) → inputs_from g (opponent side) n ≤ inputs_from g side (suc n)
inputs_behind g n side =
    let time = bits_monotone (n + 1) (suc n + 1) (omega arith) in
    let white_time = where_lines_monotone g.white_lines (bits (n + 1)) (bits (suc n + 1)) time in
    let plies = one_ply_longer g n side in
    omega (arith, time, white_time, plies)

units_behind : (g : Game) (n : ℕ) (side : Side) → plies_units g (opponent side) n ≤ plies_units g side (suc n)
units_behind g n side = omega arith

-- what is no more one ply later is no more later on
later_on : (f : Side → ℕ → ℕ) → ((side : Side) (n : ℕ) → f (opponent side) n ≤ f side (suc n)) → (k : ℕ) (side : Side) (n m : ℕ) → k + n ≡ m → f (side_after side k) n ≤ f side m
later_on f step zero side n m e = let same : n ≡ m = omega arith in subst (λ i. f side n ≤ f side i) same (omega arith)
later_on f step (suc k) side n m e =
    let whole : suc (k + n) ≡ m = omega arith in
    let later = later_on f step k (opponent side) n (k + n) refl in
    let one = step side (k + n) in
    subst (λ i. f (side_after (opponent side) k) n ≤ f side i) whole (omega (arith, later, one))

-- ---- the gates of what is left

marked : Board → ℕ
marked [] = 0
marked (m ∷ ms) = cond (not (same_mark m marks.Free)) (1 + marked ms) (marked ms)

filled_is : (n : ℕ) → filled_cells (replicate n marks.Black) ≡ n
unfolding marked
filled_is n = sym (is_count_by marked (λ m. not (same_mark m marks.Free)) refl (λ m ms. refl) (replicate n marks.Black)) ∙ all_marked n
  where
    all_marked : (n : ℕ) → marked (replicate n marks.Black) ≡ n
    all_marked zero = refl
    all_marked (suc n) = let later = all_marked n in omega (arith, later)

module _ (s : Setup) (p : Place) (met : MayBeMet s p) where
  fewer_inputs : inputs_of (begun_at s p) ≤ inputs_of s
  fewer_inputs = subst (λ side. inputs_from s.game side p.left ≤ inputs_of s) (sym met.side)
      (later_on (inputs_from s.game) (λ side n. inputs_behind s.game n side) met.made s.first p.left s.depth met.left)

  fewer_units : units s.game p.board p.side p.left ≤ units s.game (filled s).board s.first s.depth
  unfolding units
  fewer_units =
      let plies = subst (λ side. plies_units s.game side p.left ≤ plies_units s.game s.first s.depth) (sym met.side)
      (later_on (plies_units s.game) (λ side n. units_behind s.game n side) met.made s.first p.left s.depth met.left) in
      let cells = count_by-le-length (λ m. not (same_mark m marks.Free)) p.board in
      let all = filled_is (s.game.height * s.game.width) in
      omega (arith, plies, cells, all, met.size, met.left)

  fewer_gates : gate_limit (begun_at s p) ≤ gate_limit (filled s)
  unfolding gate_limit
  fewer_gates = mul-le-mul_left (24 * (anchor_bits s.game + 6)) fewer_units

  pub search_within : game_bound (begun_at s p) ≤ game_bound (filled s)
  unfolding game_bound
  search_within = steps_bound-monotone _ _ _ _ (omega (arith, fewer_inputs, fewer_gates)) fewer_inputs

-- ---- White's moves

length-flat_map_each : {X A : Type 0} (f : X → List A) (n : ℕ) → ((x : X) → length (f x) ≡ n) → (xs : List X) → length (flat_map f xs) ≡ length xs * n
length-flat_map_each f n each [] = omega arith
length-flat_map_each f n each (x ∷ xs) =
    let here = each x in
    let later = length-flat_map_each f n each xs in
    let whole = length-append (f x) (flat_map f xs) in
    grind (arith, here, later, whole)

all_moves_length : (g : Game) (side : Side) → length (all_moves g side) ≡ length (actions g side) * (g.height * g.width)
all_moves_length g side =
    length-flat_map_each _ (g.height * g.width) (λ a. length-flat_map_each _ g.width (λ y. length-map-range_with_len _ 1 g.width) (range_with_len 1 g.height) ∙ ap (λ n. n * g.width) (length-range_with_len 1 g.height)) (range_with_len 0 (length (actions g side)))
    ∙ ap (λ n. n * (g.height * g.width)) (length-range_with_len 0 (length (actions g side)))

pub replies_within : (s : Setup) (board : Board) → length (moves s.game board White) ≤ most_replies s
replies_within s board =
    let legal_ones = length-filter (legal s.game board White) (all_moves s.game White) in
    let no_more = count_by-le-length (legal s.game board White) (all_moves s.game White) in
    let all = all_moves_length s.game White in
    let order : length s.game.white_actions * (s.game.height * s.game.width) ≡ most_replies s = grind arith in
    omega (arith, legal_ones, no_more, all, order)

-- ---- sums of powers

module _ (search replies : ℕ) where
  abbrev sum_of : ℕ → ℕ
  sum_of k = sum_through (λ i. replies ^ i) k

  -- one power more, and all of them once more
  sum_next : (k : ℕ) → sum_of (suc k) ≡ 1 + replies * sum_of k
  sum_next zero = let none = pow-zero replies in let power = pow-suc replies 0 in rw (power, none) (omega arith)
  sum_next (suc k) =
      let before = sum_next k in
      let power = pow-suc replies (suc k) in
      let spread : replies * (sum_of k + replies ^ suc k) ≡ replies * sum_of k + replies ^ suc k * replies = grind arith in
      omega (arith, before, power, spread)

  sum_grows : (k : ℕ) → sum_of k ≤ sum_of (suc k)
  sum_grows k = omega arith

  next_level : (k cost : ℕ) → cost ≤ sum_of k * (search + 2) → search + 2 + replies * cost ≤ sum_of (suc k) * (search + 2)
  next_level k cost within =
      let times = mul-le-mul_left replies within in
      let sum = ap (λ n. n * (search + 2)) (sum_next k) in
      let spread : (1 + replies * sum_of k) * (search + 2) ≡ search + 2 + replies * (sum_of k * (search + 2)) = grind arith in
      omega (arith, times, sum, spread)

  none_left : (k cost : ℕ) → k ≡ 0 → cost ≤ search + 2 → cost ≤ sum_of k * (search + 2)
  none_left k cost none within =
      let one : sum_of k ≡ 1 = ap sum_of none ∙ pow-zero replies in
      rw one (omega (arith, within))

  black_cost : (n : ℕ) → tree_cost search replies Black n ≤ sum_of (n / 2) * (search + 2)
  black_cost zero = none_left (0 / 2) (search + 1) (omega arith) (omega arith)
  black_cost (suc zero) = none_left (1 / 2) (search + 1 + 1) (omega arith) (omega arith)
  black_cost (suc (suc n)) =
      let half : suc (suc n) / 2 ≡ suc (n / 2) = omega arith in
      let level = next_level (n / 2) (tree_cost search replies Black n) (black_cost n) in
      subst (λ k. search + 1 + (1 + replies * tree_cost search replies Black n) ≤ sum_of k * (search + 2)) (sym half) (omega (arith, level))

  black_within : (n : ℕ) → tree_cost search replies Black n ≤ sum_of ((n + 1) / 2) * (search + 2)
  black_within n =
      let cost = black_cost n in
      ⊎_elim (λ same. subst (λ k. tree_cost search replies Black n ≤ sum_of k * (search + 2)) (sym same) cost)
      (λ next. let more = mul-le-mul_right (search + 2) (sum_grows (n / 2)) in subst (λ k. tree_cost search replies Black n ≤ sum_of k * (search + 2)) (sym next) (omega (arith, cost, more)))
      (rounded n)
    where
      rounded : (n : ℕ) → ((n + 1) / 2 ≡ n / 2) ⊎ ((n + 1) / 2 ≡ suc (n / 2))
      rounded n = elim (cases_eq ((n + 1) / 2) (n / 2)) [ inl same ↦ inl same | inr other ↦ inr (omega (arith, other)) ]

  white_within : (n : ℕ) → search + tree_cost search replies White n ≤ sum_of ((n + 1) / 2) * (search + 2)
  white_within zero = none_left (1 / 2) (search + 1) (omega arith) (omega arith)
  white_within (suc n) =
      let half : (suc n + 1) / 2 ≡ suc (n / 2) = omega arith in
      let level = next_level (n / 2) (tree_cost search replies Black n) (black_cost n) in
      subst (λ k. search + (1 + replies * tree_cost search replies Black n) ≤ sum_of k * (search + 2)) (sym half) (omega (arith, level))

module _ (s : Setup) where
  pub black_start_within : cost_at s Black s.depth ≤ certify_bound s
  unfolding certify_bound
  black_start_within = black_within (game_bound (filled s)) (most_replies s) s.depth

  pub white_start_within : game_bound (filled s) + cost_at s White s.depth ≤ certify_bound s
  unfolding certify_bound
  white_start_within = white_within (game_bound (filled s)) (most_replies s) s.depth
