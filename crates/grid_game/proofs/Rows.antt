-- Goal lines, and the rows from which they hold.
use Rattle.std.proofs.Common.{◌≡◌, ℕ, ◌≤◌, Bool, true, false, List, inl, inr, arith}
use Rattle.std.specs.List.{list_any, list_all, range_with_len}
use Rattle.std.proofs.lemmas.Bool.{and_from, and_left, and_right, cases_Bool, cases_lt}
use Rattle.bddl_model.specs.declared.game.Test.{Test}
use Rattle.bddl_model.specs.declared.game.Rect.{Rect}
use Rattle.bddl_model.specs.Board.{Board, SizedBoard}
use Rattle.bddl_model.specs.Fitting.{fits, test_holds}
use Rattle.bddl_model.specs.Game.{Game, line_atoms}
use Rattle.bddl_model.specs.Goal.{holds_from, line_holds}
use Rattle.bddl_model.specs.Limits.{IsBoardOf}
use Rattle.bddl_model.specs.Rectangle.{IsRectOf}
use Rattle.bddl_model.proofs.Anchors.{InRect, in_rect_fits, fits_in_rect, anchor_on_board, on_side_low, on_side_high}
use Rattle.grid_game.proofs.Ranges.{some_in_range, none_in_range}

abbrev pub row_holds : Game → Board → List Test → ℕ → Bool
row_holds g board line y = list_any (λ x. holds_from g board line x y) (range_with_len 1 g.width)

some_row : (g : Game) (board : Board) (line : List Test) (r : Rect) (x y : ℕ) → IsRectOf g.width g.height (line_atoms line) r → InRect r x y → list_all (test_holds g.width board x y) line ≡ true → row_holds g board line y ≡ true
some_row g board line r x y rect here marks =
    let fit = in_rect_fits g.width g.height (line_atoms line) r x y rect here in
    let column = (anchor_on_board g.width g.height x y (line_atoms line) fit).0 in
    let low = on_side_low g.width x column in
    let high = on_side_high g.width x column in
    some_in_range (λ n. holds_from g board line n y) 1 g.width x low (omega arith) (and_from _ _ fit marks)

no_row : (g : Game) (board : Board) (line : List Test) (r : Rect) (y : ℕ) → IsRectOf g.width g.height (line_atoms line) r → ((x : ℕ) → InRect r x y → list_all (test_holds g.width board x y) line ≡ false) → row_holds g board line y ≡ false
no_row g board line r y rect none = none_in_range (λ n. holds_from g board line n y) 1 g.width (λ x low high. elim (cases_Bool (fits g.width g.height (line_atoms line) x y)) [
  | inl fit ↦ and_right (fits g.width g.height (line_atoms line) x y) _ (none x (fits_in_rect g.width g.height (line_atoms line) r x y rect fit))
  | inr out ↦ and_left (fits g.width g.height (line_atoms line) x y) _ out
])

some_line : (g : Game) (board : Board) (line : List Test) (r : Rect) (y : ℕ) → IsRectOf g.width g.height (line_atoms line) r → r.y_low ≤ y → y ≤ r.y_high → row_holds g board line y ≡ true → line_holds g board line ≡ true
some_line g board line r y rect y_low y_high holds =
    let columns = rect.columns in
    let fit = in_rect_fits g.width g.height (line_atoms line) r r.x_low y rect (record { x_low = omega arith; x_high = columns; y_low = y_low; y_high = y_high }) in
    let row = (anchor_on_board g.width g.height r.x_low y (line_atoms line) fit).1 in
    let low = on_side_low g.height y row in
    let high = on_side_high g.height y row in
    some_in_range (row_holds g board line) 1 g.height y low (omega arith) holds

-- a row outside the rectangle has no anchor that fits
row_fails : (g : Game) (board : Board) (line : List Test) (r : Rect) (y : ℕ) → IsRectOf g.width g.height (line_atoms line) r → (r.y_low ≤ y → y ≤ r.y_high → row_holds g board line y ≡ false) → row_holds g board line y ≡ false
row_fails g board line r y rect none = elim (cases_lt y r.y_low) [
  | inl before ↦ no_row g board line r y rect (λ x here. absurd (let row = here.y_low in omega arith))
  | inr since ↦ elim (cases_lt r.y_high y) [
    | inl past ↦ no_row g board line r y rect (λ x here. absurd (let row = here.y_high in omega arith))
    | inr within ↦ none since within
  ]
]

no_line : (g : Game) (board : Board) (line : List Test) (r : Rect) → IsRectOf g.width g.height (line_atoms line) r → ((y : ℕ) → r.y_low ≤ y → y ≤ r.y_high → row_holds g board line y ≡ false) → line_holds g board line ≡ false
no_line g board line r rect none = none_in_range (row_holds g board line) 1 g.height (λ y low high. row_fails g board line r y rect (none y))

-- ---- on a board of the game's sides

pub row_holds_by_one : (g : Game) (b : SizedBoard) (line : List Test) (r : Rect) (x y : ℕ) → IsBoardOf g b → IsRectOf b.width b.height (line_atoms line) r → InRect r x y
    → list_all (test_holds b.width b.marks x y) line ≡ true → row_holds g b.marks line y ≡ true
row_holds_by_one g b line r x y size rect here marks =
    some_row g b.marks line r x y (rw (size.0, size.1) at rect) here (rw size.0 at marks)

pub row_fails_by_all : (g : Game) (b : SizedBoard) (line : List Test) (r : Rect) (y : ℕ) → IsBoardOf g b → IsRectOf b.width b.height (line_atoms line) r
    → ((x : ℕ) → InRect r x y → list_all (test_holds b.width b.marks x y) line ≡ false) → row_holds g b.marks line y ≡ false
row_fails_by_all g b line r y size rect none =
    no_row g b.marks line r y (rw (size.0, size.1) at rect) (λ x here. rw size.0 at (none x here))

pub line_holds_by_one : (g : Game) (b : SizedBoard) (line : List Test) (r : Rect) (y : ℕ) → IsBoardOf g b → IsRectOf b.width b.height (line_atoms line) r → r.y_low ≤ y → y ≤ r.y_high
    → row_holds g b.marks line y ≡ true → line_holds g b.marks line ≡ true
line_holds_by_one g b line r y size rect low high holds =
    some_line g b.marks line r y (rw (size.0, size.1) at rect) low high holds

pub line_fails_by_all : (g : Game) (b : SizedBoard) (line : List Test) (r : Rect) → IsBoardOf g b → IsRectOf b.width b.height (line_atoms line) r
    → ((y : ℕ) → r.y_low ≤ y → y ≤ r.y_high → row_holds g b.marks line y ≡ false) → line_holds g b.marks line ≡ false
line_fails_by_all g b line r size rect none =
    no_line g b.marks line r (rw (size.0, size.1) at rect) none
