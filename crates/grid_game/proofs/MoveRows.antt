-- One column more of a row, one row more of an action, and room for both.
use Rattle.std.proofs.Common.{◌≡◌, ℕ, suc, ◌+◌, ◌-◌, ◌≤◌, Bool, true, false, List, [], ◌∷◌, ◌++◌, length, refl, sym, ap, ◌∙◌, append_assoc, length-append, arith}
use Rattle.std.specs.Prelude.{filter}
use Rattle.std.proofs.lemmas.List.Elements.{filter-append}
use Rattle.std.proofs.lemmas.List.FromFn.{length-map-range_with_len}
use Rattle.bddl_model.specs.declared.game.Side.{Side}
use Rattle.bddl_model.specs.declared.game.Test.{Test}
use Rattle.bddl_model.specs.declared.game.Move.{Move}
use Rattle.bddl_model.specs.declared.game.Rect.{Rect}
use Rattle.bddl_model.specs.Game.{Game, Action}
use Rattle.bddl_model.specs.Board.{SizedBoard}
use Rattle.bddl_model.specs.Moves.{legal}
use Rattle.grid_game.specs.Listed.{move_at, row_moves, action_moves, tests_hold}
use Rattle.grid_game.proofs.MoveRanges.{few_pass}
use Rattle.grid_game.proofs.MoveLegal.{ActsIn, legal_row}

-- ---- one column more

row_begins : (action y x high : ℕ) → x ≤ high → row_moves action y x (high + 1 - x) ≡ move_at action y x ∷ row_moves action y (x + 1) (high + 1 - (x + 1))
row_begins action y x high le = let more : high + 1 - x ≡ suc (high + 1 - (x + 1)) = omega arith in ap (row_moves action y x) more

pub row_takes : (p : Move → Bool) (action y x high : ℕ) (done : List Move) → x ≤ high → p (move_at action y x) ≡ true
    → (done ++ move_at action y x ∷ []) ++ filter p (row_moves action y (x + 1) (high + 1 - (x + 1))) ≡ done ++ filter p (row_moves action y x (high + 1 - x))
row_takes p action y x high done le passes = rw (row_begins action y x high le, passes, append_assoc) refl

pub row_skips : (p : Move → Bool) (action y x high : ℕ) (done : List Move) → x ≤ high → p (move_at action y x) ≡ false
    → done ++ filter p (row_moves action y (x + 1) (high + 1 - (x + 1))) ≡ done ++ filter p (row_moves action y x (high + 1 - x))
row_skips p action y x high done le fails = rw (row_begins action y x high le, fails) refl

-- ---- one row more

pub row_joins : (g : Game) (b : SizedBoard) (side : Side) (action y : ℕ) (a : Action) (r : Rect) (before : List Test) (done grown : List Move) → b.width ≡ g.width → ActsIn g side action a r → r.y_low ≤ y → y ≤ r.y_high
    → before ≡ a.before → grown ≡ done ++ filter (tests_hold b before) (row_moves action y r.x_low (r.x_high + 1 - r.x_low))
    → grown ++ filter (legal g b.marks side) (action_moves g action (y + 1) (r.y_high + 1 - (y + 1))) ≡ done ++ filter (legal g b.marks side) (action_moves g action y (r.y_high + 1 - y))
row_joins g b side action y a r before done grown size acts top bottom same listed =
    let p = legal g b.marks side in
    let row = row_moves action y 1 g.width in
    let rest = action_moves g action (y + 1) (r.y_high + 1 - (y + 1)) in
    let more : suc (r.y_high + 1 - (y + 1)) ≡ r.y_high + 1 - y = omega arith in
    let adds = listed ∙ ap (λ atoms. done ++ filter (tests_hold b atoms) (row_moves action y r.x_low (r.x_high + 1 - r.x_low))) same ∙ ap (λ (l : List Move). done ++ l) (sym (legal_row g b side action y a r size acts top bottom)) in
    ap (λ (l : List Move). l ++ filter p rest) adds
    ∙ append_assoc done (filter p row) (filter p rest)
    ∙ ap (λ (l : List Move). done ++ l) (sym (filter-append p row rest) ∙ ap (λ n. filter p (action_moves g action y n)) more)

-- ---- room for the rows that are left

pub row_is_short : (p : Move → Bool) (action y x n : ℕ) (done : List Move) → length (done ++ filter p (row_moves action y x n)) ≤ length done + n
row_is_short p action y x n done =
    let all : length (row_moves action y x n) ≡ n = length-map-range_with_len (move_at action y) x n in
    omega (arith, length-append done (filter p (row_moves action y x n)), few_pass p (row_moves action y x n))
