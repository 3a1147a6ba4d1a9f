-- A move is written in bits and read back, and a legal one is in range.
use Rattle.std.proofs.Common.{◌≡◌, ℕ, zero, suc, ◌+◌, ◌-◌, ◌*◌, ◌/◌, ◌%◌, ◌^◌, ◌<◌, ◌≤◌, Bool, true, false, ◌&&◌, ◌==◌, if◌then◌else◌, List, [], ◌∷◌, ◌++◌, length, take, drop, Option, None, Some, refl, sym, ap, ap₂, ◌∙◌, arith, pow-suc, ne_eqb}
use Rattle.std.specs.Prelude.{slice_get}
use Rattle.std.specs.List.{list_all}
use Rattle.std.proofs.lemmas.Bool.{and_parts, leb-true, false≢true}
use Rattle.std.proofs.lemmas.Bool.Decides.{nat_tests}
use Rattle.std.proofs.lemmas.List.{take_at, drop_at, length-take-le, length-drop, take-append-drop}
use Rattle.std.proofs.lemmas.Option.{slice_get_within}
use Rattle.bddl_model.specs.declared.game.Side.{Side}
use Rattle.bddl_model.specs.declared.game.Move.{Move}
use Rattle.bddl_model.specs.Bits.{bits}
use Rattle.bddl_model.specs.Words.{number_of_bits}
use Rattle.bddl_model.specs.Game.{Game, Action, action_atoms, actions}
use Rattle.bddl_model.specs.Board.{Board}
use Rattle.bddl_model.specs.Fitting.{on_side, on_board, fits}
use Rattle.bddl_model.specs.Moves.{legal_with, legal}
use Rattle.bddl_model.specs.Layout.{code_bits}
use Rattle.bddl_model.specs.Codes.{Shape, shape_of, code_length, IsPlaced, number_bits, code, spelled_move, fits_action, in_range}
use Rattle.bddl_model.proofs.Bits.{bits_enough}

-- ---- numbers in bits

pub bits_below : (bs : List Bool) → number_of_bits bs < 2 ^ length bs
bits_below [] = omega arith
bits_below (true ∷ bs) = rw (pow-suc 2 (length bs)) (omega (arith, bits_below bs))
bits_below (false ∷ bs) = rw (pow-suc 2 (length bs)) (omega (arith, bits_below bs))

pub length-number_bits : (n k : ℕ) → length (number_bits n k) ≡ n
length-number_bits zero k = refl
length-number_bits (suc n) k = ap suc (length-number_bits n (k / 2))

odd_and_half : (k : ℕ) → (if k % 2 == 1 then 1 else 0) + 2 * (k / 2) ≡ k
odd_and_half k = grind (arith, nat_tests)

pub number_written : (n k : ℕ) → k < 2 ^ n → number_of_bits (number_bits n k) ≡ k
number_written zero k h = omega arith
number_written (suc n) k h =
    let half : k / 2 < 2 ^ n = half_below k (2 ^ n) (rw (pow-suc 2 n) at h) in
    ap (λ m. (if k % 2 == 1 then 1 else 0) + 2 * m) (number_written n (k / 2) half) ∙ odd_and_half k
  where
    half_below : (k p : ℕ) → k < p * 2 → k / 2 < p
    half_below k p h = omega arith

pub bits_written : (bs : List Bool) → number_bits (length bs) (number_of_bits bs) ≡ bs
bits_written [] = refl
bits_written (b ∷ bs) = ap₂ (λ x xs. x ∷ xs) (first b (number_of_bits bs)) (ap (number_bits (length bs)) (rest b (number_of_bits bs)) ∙ bits_written bs)
  where
    first : (b : Bool) (m : ℕ) → (((if b then 1 else 0) + 2 * m) % 2 == 1) ≡ b
    first true m = grind (arith, nat_tests)
    first false m = grind (arith, nat_tests)

    rest : (b : Bool) (m : ℕ) → ((if b then 1 else 0) + 2 * m) / 2 ≡ m
    rest true m = omega arith
    rest false m = omega arith

below_bits : (n k : ℕ) → k < n → k < 2 ^ bits n
below_bits n k h = omega (arith, h, bits_enough n)

-- ---- moves in bits

pub some_actions : (s : Shape) → 1 ≤ s.actions → code_length s ≡ bits s.actions + (bits s.width + bits s.height)
some_actions s some = rw (ne_eqb s.actions 0 (λ none. omega arith)) refl

module _ (s : Shape) (m : Move) (placed : IsPlaced s m) where
  abbrev columns : List Bool
  columns = number_bits (bits s.width) (m.x - 1)

  abbrev rows : List Bool
  rows = number_bits (bits s.height) (m.y - 1)

  anchor_behind : drop (bits s.actions) (code s m) ≡ columns ++ rows
  anchor_behind = drop_at (number_bits (bits s.actions) m.action) (columns ++ rows) (bits s.actions) (length-number_bits (bits s.actions) m.action)

  action_spelled : number_of_bits (take (bits s.actions) (code s m)) ≡ m.action
  action_spelled =
      ap number_of_bits (take_at (number_bits (bits s.actions) m.action) (columns ++ rows) (bits s.actions) (length-number_bits (bits s.actions) m.action))
      ∙ number_written (bits s.actions) m.action (below_bits s.actions m.action placed.action)

  column_spelled : number_of_bits (take (bits s.width) (drop (bits s.actions) (code s m))) + 1 ≡ m.x
  column_spelled =
      let is = ap (λ l. number_of_bits (take (bits s.width) l)) anchor_behind
      ∙ ap number_of_bits (take_at columns rows (bits s.width) (length-number_bits (bits s.width) (m.x - 1)))
      ∙ number_written (bits s.width) (m.x - 1) (below_bits s.width (m.x - 1) (omega (arith, placed.column))) in
      omega (arith, is, placed.column)

  row_spelled : number_of_bits (drop (bits s.width) (drop (bits s.actions) (code s m))) + 1 ≡ m.y
  row_spelled =
      let is = ap (λ l. number_of_bits (drop (bits s.width) l)) anchor_behind
      ∙ ap number_of_bits (drop_at columns rows (bits s.width) (length-number_bits (bits s.width) (m.x - 1)))
      ∙ number_written (bits s.height) (m.y - 1) (below_bits s.height (m.y - 1) (omega (arith, placed.row))) in
      omega (arith, is, placed.row)

  pub spelled_code : spelled_move s (code s m) ≡ m
  spelled_code = rw (action_spelled, column_spelled, row_spelled) refl

module _ (s : Shape) (c : List Bool) (l : length c ≡ code_length s) (placed : IsPlaced s (spelled_move s c)) where
  abbrev anchor : List Bool
  anchor = drop (bits s.actions) c

  whole : length c ≡ bits s.actions + (bits s.width + bits s.height)
  whole = l ∙ some_actions s (omega (arith, placed.action))

  behind : length anchor ≡ bits s.width + bits s.height
  behind = omega (arith, whole, length-drop (bits s.actions) c)

  number_of : (n : ℕ) (bs : List Bool) → length bs ≡ n → number_bits n (number_of_bits bs) ≡ bs
  number_of n bs h = ap (λ k. number_bits k (number_of_bits bs)) (sym h) ∙ bits_written bs

  counted_from_one : (n : ℕ) (bs : List Bool) → length bs ≡ n → number_bits n (number_of_bits bs + 1 - 1) ≡ bs
  counted_from_one n bs h =
      let same : number_of_bits bs + 1 - 1 ≡ number_of_bits bs = omega arith in
      ap (number_bits n) same ∙ number_of n bs h

  pub code_spelled : code s (spelled_move s c) ≡ c
  code_spelled =
      let action = number_of (bits s.actions) (take (bits s.actions) c) (length-take-le (bits s.actions) c (omega (arith, whole))) in
      let column = counted_from_one (bits s.width) (take (bits s.width) anchor) (length-take-le (bits s.width) anchor (omega (arith, behind))) in
      let row = counted_from_one (bits s.height) (drop (bits s.width) anchor) (omega (arith, behind, length-drop (bits s.width) anchor)) in
      ap₂ (λ u v. u ++ v) action (ap₂ (λ u v. u ++ v) column row ∙ take-append-drop (bits s.width) anchor)
      ∙ take-append-drop (bits s.actions) c

pub code_length_is : (g : Game) (side : Side) → code_length (shape_of g side) ≡ code_bits g (actions g side)
code_length_is g side = of (actions g side)
  where
    of : (list : List Action) → code_length (record { actions = length list; width = g.width; height = g.height }) ≡ code_bits g list
    of [] = refl
    of (a ∷ more) = some_actions (record { actions = length (a ∷ more); width = g.width; height = g.height }) (omega arith)

-- ---- moves in range

module _ (g : Game) (side : Side) (m : Move) where
  pub legal_is_in_range : (board : Board) → legal g board side m ≡ true → in_range g side m ≡ true
  legal_is_in_range board = of (slice_get (actions g side) m.action)
    where
      of : (found : Option Action) → legal_with g board found m.x m.y ≡ true → fits_action g found m.x m.y ≡ true
      of None none = none
      of (Some a) may = (and_parts (fits g.width g.height (action_atoms a) m.x m.y) _ may).0

  pub in_range_is_placed : in_range g side m ≡ true → IsPlaced (shape_of g side) m
  in_range_is_placed = of (slice_get (actions g side) m.action) refl
    where
      of : (found : Option Action) → slice_get (actions g side) m.action ≡ found → fits_action g found m.x m.y ≡ true → IsPlaced (shape_of g side) m
      of None is none = absurd (false≢true none)
      of (Some a) is fit =
          let column = and_parts (on_side g.width m.x) (on_side g.height m.y && list_all (on_board g.width g.height m.x m.y) (action_atoms a)) fit in
          let row = and_parts (on_side g.height m.y) _ column.1 in
          let x = and_parts _ _ column.0 in
          let y = and_parts _ _ row.0 in
          record {
            action = slice_get_within (actions g side) m.action a is;
            column = (leb-true 1 m.x x.0, leb-true m.x g.width x.1);
            row = (leb-true 1 m.y y.0, leb-true m.y g.height y.1);
          }
