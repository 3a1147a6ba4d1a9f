-- The tests of some line from some anchor hold on a board exactly where the goal stands.
use Rattle.std.proofs.Common.{◌≡◌, ℕ, zero, suc, ◌≤◌, ◌<◌, ◌+◌, Bool, true, false, ◌&&◌, List, [], ◌∷◌, length, inl, inr, refl, sym, ap, ◌∙◌, subst, arith, Option, Some, None, if◌then◌else◌}
use Rattle.std.specs.Prelude.{slice_get}
use Rattle.std.specs.List.{list_any, list_all, range_with_len}
use Rattle.std.proofs.lemmas.Bool.{and_parts, or_cases, or_parts, cases_lt, false≢true}
use Rattle.std.proofs.lemmas.Option.{slice_get_within}
use Rattle.bddl_model.specs.declared.game.Side.{Side}
use Rattle.bddl_model.specs.declared.game.Test.{Test}
use Rattle.bddl_model.specs.Game.{Game, line_atoms, lines}
use Rattle.bddl_model.specs.Board.{Board}
use Rattle.bddl_model.specs.Fitting.{on_side, fits, test_holds}
use Rattle.bddl_model.specs.Goal.{goal, line_holds, holds_from}
use Rattle.bddl_model.specs.Layout.{most_tests}
use Rattle.bddl_model.specs.Conditions.{Cell, PlacedTest}
use Rattle.bddl_model.specs.Encoding.{tests_from, fitting_tests, placed_line, line_tests, shown}
use Rattle.bddl_laws.proofs.Tests.{all_hold, tests_hold, AllCells, TestCells}
use Rattle.bddl_laws.proofs.Serving.{LineOf, NoneHolds, tests_in}
use Rattle.bddl_laws.proofs.Codes.{on_side_is, fits_parts}
use Rattle.bddl_laws.proofs.GameTests.{IsPlace, fitting_hold, fitting_places, fitting_count}

-- ---- lists

numbered_passes : {X : Type 0} (f : X → Bool) (xs : List X) → list_any f xs ≡ true → (n : ℕ) × (x : X) × (slice_get xs n ≡ Some x) × (f x ≡ true)
numbered_passes f [] h = absurd (false≢true h)
numbered_passes {X} f (x ∷ xs) h = elim (or_cases (f x) (list_any f xs) h) [
  | inl here ↦ (0, x, refl, here)
  | inr later ↦ let r = numbered_passes f xs later in (suc r.0, r.1, r.2, r.3)
]

numbered_fails : {X : Type 0} (f : X → Bool) (xs : List X) (n : ℕ) (x : X) → list_any f xs ≡ false → slice_get xs n ≡ Some x → f x ≡ false
numbered_fails f [] n x h e = absurd cc
numbered_fails f (y ∷ ys) zero x h e = ap f (let s : x ≡ y = cc in s) ∙ (or_parts _ _ h).0
numbered_fails f (y ∷ ys) (suc n) x h e = numbered_fails f ys n x (or_parts (f y) _ h).1 e

range_fails : (f : ℕ → Bool) (side n : ℕ) → list_any f (range_with_len 1 side) ≡ false → on_side side n ≡ true → f n ≡ false
range_fails f side n h on = from 1 side h (on_side_is side n on).0 (omega (arith, on_side_is side n on))
  where
    from : (a k : ℕ) → list_any f (range_with_len a k) ≡ false → a ≤ n → n < a + k → f n ≡ false
    from a zero e low high = absurd (omega arith)
    from a (suc k) e low high = elim (cases_lt a n) [
      | inl lt ↦ from (a + 1) k (or_parts (f a) _ e).1 (omega arith) (omega arith)
      | inr le ↦ ap f (let s : n ≡ a = omega arith in s) ∙ (or_parts _ _ e).0
    ]

-- ---- lines

-- the tests of one of the side's lines from an anchor that fits it
abbrev pub IsLine : Game → Side → List PlacedTest → Type 0
IsLine g side ts = (n : ℕ) × (anchor : Cell) × (line_tests g side n anchor ≡ Some ts)

pub line_is_one : (g : Game) (side : Side) (n : ℕ) (anchor : Cell) → LineOf (IsLine g side) (line_tests g side n anchor)
line_is_one g side n anchor = at (line_tests g side n anchor) refl
  where
    at : (o : Option (List PlacedTest)) → line_tests g side n anchor ≡ o → LineOf (IsLine g side) o
    at None e = tt
    at (Some ts) e = (n, anchor, e)

-- a line that is told is there
tests_of : (g : Game) (side : Side) (n : ℕ) (anchor : Cell) (ts : List PlacedTest) → line_tests g side n anchor ≡ Some ts
    → (line : List Test) × (slice_get (lines g side) n ≡ Some line) × (fitting_tests g (line_atoms line) line anchor ≡ Some ts)
tests_of g side n anchor ts e = at (slice_get (lines g side) n) refl e
  where
    at : (o : Option (List Test)) → slice_get (lines g side) n ≡ o → placed_line g o anchor ≡ Some ts → (line : List Test) × (slice_get (lines g side) n ≡ Some line) × (fitting_tests g (line_atoms line) line anchor ≡ Some ts)
    at None there e = absurd cc
    at (Some line) there e = (line, there, e)

module _ (g : Game) (side : Side) where
  pub line_places : (ts : List PlacedTest) → IsLine g side ts → AllCells (IsPlace g) ts
  line_places ts (n, anchor, e) =
      let l = tests_of g side n anchor ts e in
      at (fitting_tests g (line_atoms l.0) l.0 anchor) l.2 (fitting_places g anchor (line_atoms l.0) l.0 (λ on. on))
    where
      at : (o : Option (List PlacedTest)) → o ≡ Some ts → TestCells (IsPlace g) o → AllCells (IsPlace g) ts
      at o e h = subst (TestCells (IsPlace g)) e h

  most_tests_at : (ls : List (List Test)) (n : ℕ) (line : List Test) → slice_get ls n ≡ Some line → length line ≤ most_tests ls
  most_tests_at [] n line e = absurd cc
  most_tests_at (l ∷ ls) zero line e = let s : line ≡ l = cc in omega (arith, ap length s)
  most_tests_at (l ∷ ls) (suc n) line e = omega (arith, most_tests_at ls n line e)

  pub line_count : (n : ℕ) (anchor : Cell) → tests_in (line_tests g side n anchor) ≤ most_tests (lines g side)
  line_count n anchor = at (slice_get (lines g side) n) refl
    where
      at : (o : Option (List Test)) → slice_get (lines g side) n ≡ o → tests_in (placed_line g o anchor) ≤ most_tests (lines g side)
      at None e = omega arith
      at (Some line) e = omega (arith, fitting_count g anchor (line_atoms line) line (λ on. on), most_tests_at (lines g side) n line e)

  -- a goal that stands has a line, by its number, and an anchor that is on the board
  pub record Standing (board : Board) : Type 0 where
    pub number : ℕ
    pub anchor : Cell
    pub tests : List PlacedTest
    pub below : number < length (lines g side)
    pub column : on_side g.width anchor.x ≡ true
    pub row : on_side g.height anchor.y ≡ true
    pub line : line_tests g side number anchor ≡ Some tests
    pub hold : all_hold (shown g board) tests ≡ true

  pub goal_stands : (board : Board) → goal g board side ≡ true → Standing board
  goal_stands board h =
      let line = numbered_passes (line_holds g board) (lines g side) h in
      let row = numbered_passes (λ y. list_any (λ x. holds_from g board line.1 x y) (range_with_len 1 g.width)) (range_with_len 1 g.height) line.3 in
      let column = numbered_passes (λ x. holds_from g board line.1 x row.1) (range_with_len 1 g.width) row.3 in
      let anchor : Cell = record { x = column.1; y = row.1 } in
      let fit = (and_parts (fits g.width g.height (line_atoms line.1) column.1 row.1) _ column.3).0 in
      let on = fits_parts g.width g.height (line_atoms line.1) column.1 row.1 fit in
      record {
        number = line.0;
        anchor = anchor;
        tests = tests_from anchor line.1;
        below = slice_get_within (lines g side) line.0 line.1 line.2;
        column = on.0;
        row = on.1;
        line = ap (λ o. placed_line g o anchor) line.2 ∙ ap (λ t. if t then Some (tests_from anchor line.1) else None) fit;
        hold = sym (ap (λ t. tests_hold (shown g board) (if t then Some (tests_from anchor line.1) else None)) fit) ∙ fitting_hold g anchor (line_atoms line.1) line.1 (λ a. a) board ∙ column.3;
      }

  pub no_line_holds : (board : Board) → goal g board side ≡ false → NoneHolds (IsLine g side) (shown g board)
  no_line_holds board h ts (n, anchor, e) =
      let l = tests_of g side n anchor ts e in
      let off = numbered_fails (line_holds g board) (lines g side) n l.0 h l.1 in
      sym (ap (tests_hold (shown g board)) l.2) ∙ fitting_hold g anchor (line_atoms l.0) l.0 (λ a. a) board ∙ fails l.0 off
    where
      fails : (line : List Test) → line_holds g board line ≡ false → holds_from g board line anchor.x anchor.y ≡ false
      fails line off = at (fits g.width g.height (line_atoms line) anchor.x anchor.y) refl
        where
          at : (t : Bool) → fits g.width g.height (line_atoms line) anchor.x anchor.y ≡ t → holds_from g board line anchor.x anchor.y ≡ false
          at true fit =
              let on = fits_parts g.width g.height (line_atoms line) anchor.x anchor.y fit in
              range_fails (λ x. holds_from g board line x anchor.y) g.width anchor.x
              (range_fails (λ y. list_any (λ x. holds_from g board line x y) (range_with_len 1 g.width)) g.height anchor.y off on.1) on.0
          at false fit = ap (λ t. t && list_all (test_holds g.width board anchor.x anchor.y) line) fit
