-- The legal moves of an action are those of its rectangle whose preconditions hold.
use Rattle.std.proofs.Common.{◌≡◌, ℕ, ◌+◌, ◌-◌, ◌≤◌, ◌<◌, Bool, true, false, cond, List, [], ◌∷◌, length, sym, ap, ◌∙◌, arith}
use Rattle.std.specs.Prelude.{filter, flat_map, ◌&&◌, slice_get, Some}
use Rattle.std.specs.List.{list_all, range_with_len}
use Rattle.std.proofs.lemmas.Bool.{and_left, and_right, lt-leb}
use Rattle.std.proofs.lemmas.Option.{slice_get-get_or}
use Rattle.bddl_model.specs.declared.game.Side.{Side}
use Rattle.bddl_model.specs.declared.game.Move.{Move}
use Rattle.bddl_model.specs.declared.game.Rect.{Rect}
use Rattle.bddl_model.specs.Game.{Game, Action, action_atoms, actions, action_at}
use Rattle.bddl_model.specs.Board.{Board, SizedBoard}
use Rattle.bddl_model.specs.Fitting.{test_holds}
use Rattle.bddl_model.specs.Rectangle.{in_rect, IsRectOf}
use Rattle.bddl_model.specs.Moves.{legal, legal_with, may_act}
use Rattle.grid_game.specs.Listed.{move_at, row_moves, action_moves, tests_hold}
use Rattle.grid_game.proofs.MoveRanges.{nothing_in_range, within_range, same_in_range, filter-map, filter-flat_map}
use Rattle.grid_game.proofs.MoveAnchors.{anchor_inside, rect_on_board}

-- the side's action of this number is this one, and this is its rectangle
pub record ActsIn (g : Game) (side : Side) (action : ℕ) (a : Action) (r : Rect) : Type 0 where
  pub is : slice_get (actions g side) action ≡ Some a
  pub rect : IsRectOf g.width g.height (action_atoms a) r

pub acts_in : (g : Game) (side : Side) (action : ℕ) (r : Rect) → action < length (actions g side) → IsRectOf g.width g.height (action_atoms (action_at g side action)) r → ActsIn g side action (action_at g side action) r
acts_in g side action r has rect = record { is = slice_get-get_or (actions g side) action _ has; rect = rect }

-- ---- at one anchor

legal_is : (g : Game) (board : Board) (side : Side) (action x y : ℕ) (a : Action) → slice_get (actions g side) action ≡ Some a → legal g board side (move_at action y x) ≡ may_act g board a x y
legal_is g board side action x y a is = ap (λ o. legal_with g board o x y) is

nothing_outside : (g : Game) (board : Board) (side : Side) (action x y : ℕ) (a : Action) (r : Rect) → ActsIn g side action a r → in_rect r x y ≡ false → legal g board side (move_at action y x) ≡ false
nothing_outside g board side action x y a r acts out = legal_is g board side action x y a acts.is ∙ and_left _ _ (sym (acts.rect.anchors x y) ∙ out)

legal_inside : (g : Game) (b : SizedBoard) (side : Side) (action x y : ℕ) (a : Action) (r : Rect) → b.width ≡ g.width → ActsIn g side action a r → in_rect r x y ≡ true
    → legal g b.marks side (move_at action y x) ≡ tests_hold b a.before (move_at action y x)
legal_inside g b side action x y a r size acts inside =
    legal_is g b.marks side action x y a acts.is
    ∙ ap (λ fit. fit && list_all (test_holds g.width b.marks x y) a.before) (sym (acts.rect.anchors x y) ∙ inside)
    ∙ ap (λ width. list_all (test_holds width b.marks x y) a.before) (sym size)

-- ---- in a row

-- the move of one column, if it passes
abbrev kept : (Move → Bool) → ℕ → ℕ → ℕ → List Move
kept p action y x = cond (p (move_at action y x)) (move_at action y x ∷ []) []

kept_nothing : (p : Move → Bool) (action y x : ℕ) → p (move_at action y x) ≡ false → kept p action y x ≡ []
kept_nothing p action y x h = ap (λ b. cond b (move_at action y x ∷ []) []) h

kept_same : (p q : Move → Bool) (action y x : ℕ) → p (move_at action y x) ≡ q (move_at action y x) → kept p action y x ≡ kept q action y x
kept_same p q action y x h = ap (λ b. cond b (move_at action y x ∷ []) []) h

row_kept : (p : Move → Bool) (action y x n : ℕ) → filter p (row_moves action y x n) ≡ flat_map (kept p action y) (range_with_len x n)
row_kept p action y x n = filter-map p (move_at action y) (range_with_len x n)

-- in a row of the rectangle
pub legal_row : (g : Game) (b : SizedBoard) (side : Side) (action y : ℕ) (a : Action) (r : Rect) → b.width ≡ g.width → ActsIn g side action a r → r.y_low ≤ y → y ≤ r.y_high
    → filter (legal g b.marks side) (row_moves action y 1 g.width) ≡ filter (tests_hold b a.before) (row_moves action y r.x_low (r.x_high + 1 - r.x_low))
legal_row g b side action y a r size acts top bottom =
    let p = legal g b.marks side in
    let on = rect_on_board g.width g.height (action_atoms a) r acts.rect in
    row_kept p action y 1 g.width
    ∙ within_range (kept p action y) r.x_low r.x_high g.width on.x_low acts.rect.columns on.x_high
    (λ x before. kept_nothing p action y x (nothing_outside g b.marks side action x y a r acts (and_left _ _ (and_left _ _ (lt-leb _ _ before)))))
    (λ x behind. kept_nothing p action y x (nothing_outside g b.marks side action x y a r acts (and_left _ _ (and_right _ _ (lt-leb _ _ behind)))))
    ∙ same_in_range (kept p action y) (kept (tests_hold b a.before) action y) r.x_low (r.x_high + 1 - r.x_low)
    (λ x left right. kept_same p (tests_hold b a.before) action y x (legal_inside g b side action x y a r size acts (anchor_inside r x y left (omega arith) top bottom)))
    ∙ sym (row_kept (tests_hold b a.before) action y r.x_low (r.x_high + 1 - r.x_low))

-- in a row outside of it
nothing_in_row : (g : Game) (board : Board) (side : Side) (action y : ℕ) (a : Action) (r : Rect) → ActsIn g side action a r → ((x : ℕ) → in_rect r x y ≡ false) → filter (legal g board side) (row_moves action y 1 g.width) ≡ []
nothing_in_row g board side action y a r acts out =
    row_kept (legal g board side) action y 1 g.width
    ∙ nothing_in_range (kept (legal g board side) action y) 1 g.width (λ x low high. kept_nothing (legal g board side) action y x (nothing_outside g board side action x y a r acts (out x)))

-- ---- in all rows

pub legal_rows : (g : Game) (board : Board) (side : Side) (action : ℕ) (a : Action) (r : Rect) → ActsIn g side action a r
    → filter (legal g board side) (action_moves g action 1 g.height) ≡ filter (legal g board side) (action_moves g action r.y_low (r.y_high + 1 - r.y_low))
legal_rows g board side action a r acts =
    let p = legal g board side in
    let row = λ (y : ℕ). row_moves action y 1 g.width in
    let on = rect_on_board g.width g.height (action_atoms a) r acts.rect in
    filter-flat_map p row (range_with_len 1 g.height)
    ∙ within_range (λ y. filter p (row y)) r.y_low r.y_high g.height on.y_low acts.rect.rows on.y_high
    (λ y above. nothing_in_row g board side action y a r acts (λ x. and_right _ _ (and_left _ _ (lt-leb _ _ above))))
    (λ y below. nothing_in_row g board side action y a r acts (λ x. and_right _ _ (and_right _ _ (lt-leb _ _ below))))
    ∙ sym (filter-flat_map p row (range_with_len r.y_low (r.y_high + 1 - r.y_low)))
