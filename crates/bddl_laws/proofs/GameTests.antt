-- The tests of a move hold on a board exactly where it is legal.
use Rattle.std.proofs.Common.{◌≡◌, ℕ, zero, suc, ◌≤◌, ◌<◌, ◌+◌, ◌-◌, ◌^◌, Bool, true, false, ◌&&◌, List, [], ◌∷◌, ◌++◌, length, inl, inr, refl, sym, ap, ap₂, ◌∙◌, arith, Option, Some, None, if◌then◌else◌}
use Rattle.std.specs.Prelude.{slice_get}
use Rattle.std.specs.List.{list_all}
use Rattle.std.proofs.lemmas.Bool.{and_parts, and_from}
use Rattle.std.proofs.lemmas.List.{length-map}
use Rattle.bddl_model.specs.declared.game.Side.{Side}
use Rattle.bddl_model.specs.declared.game.Mark.TheVariants.{Free}
use Rattle.bddl_model.specs.declared.game.Atom.{Atom}
use Rattle.bddl_model.specs.declared.game.Test.{Test}
use Rattle.bddl_model.specs.declared.game.Move.{Move}
use Rattle.bddl_model.specs.Bits.{bits}
use Rattle.bddl_model.specs.Game.{Game, Action, action_atoms, actions, test_atoms}
use Rattle.bddl_model.specs.Board.{Board, mark_at}
use Rattle.bddl_model.specs.Fitting.{led, on_side, on_board, fits, passes, test_holds}
use Rattle.bddl_model.specs.Moves.{legal, legal_with}
use Rattle.bddl_model.specs.Truth.{Assignment}
use Rattle.bddl_model.specs.Layout.{most_preconditions, code_bits, span}
use Rattle.bddl_model.specs.Exact.{coded_move}
use Rattle.bddl_model.proofs.Blocks.{SameBelow}
use Rattle.bddl_model.specs.Conditions.{Cell}
use Rattle.bddl_model.specs.Encoding.{tests_from, fitting_tests, action_tests, move_tests, shown}
use Rattle.bddl_laws.proofs.Tests.{all_hold, tests_hold, AllCells, TestCells}
use Rattle.bddl_laws.proofs.Serving.{tests_in}
use Rattle.bddl_laws.proofs.Codes.{on_side_is, side_fits, fits_parts, code_same}

-- a cell that bits of the board's sides can name
pub record IsPlace (g : Game) (c : Cell) : Type 0 where
  pub column : (1 ≤ c.x) × (c.x - 1 < 2 ^ bits g.width)
  pub row : (1 ≤ c.y) × (c.y - 1 < 2 ^ bits g.height)

pub cell_is_place : (g : Game) (c : Cell) → on_side g.width c.x ≡ true → on_side g.height c.y ≡ true → IsPlace g c
cell_is_place g c w h = record { column = ((on_side_is g.width c.x w).0, side_fits g.width c.x w); row = ((on_side_is g.height c.y h).0, side_fits g.height c.y h) }

-- ---- lists

all_front : {X : Type 0} (f : X → Bool) (xs ys : List X) → list_all f (xs ++ ys) ≡ true → list_all f xs ≡ true
all_front f [] ys h = refl
all_front f (x ∷ xs) ys h = let p = and_parts (f x) _ h in and_from _ _ p.0 (all_front f xs ys p.1)

-- ---- tests from an anchor

module _ (g : Game) (anchor : Cell) where
  abbrev pub AllOn : List Atom → Type 0
  AllOn atoms = list_all (on_board g.width g.height anchor.x anchor.y) atoms ≡ true

  placed_hold : (board : Board) (tests : List Test) → AllOn (test_atoms tests) → all_hold (shown g board) (tests_from anchor tests) ≡ list_all (test_holds g.width board anchor.x anchor.y) tests
  placed_hold board [] on = refl
  placed_hold board (t ∷ ts) on =
      let p = and_parts (on_board g.width g.height anchor.x anchor.y t.atom) _ on in
      ap₂ (λ x y. x && y)
      (ap (λ b. passes (if b then mark_at g.width board (led t.atom.x anchor.x) (led t.atom.y anchor.y) else Free) t) p.0)
      (placed_hold board ts p.1)

  placed_on_places : (tests : List Test) → AllOn (test_atoms tests) → AllCells (IsPlace g) (tests_from anchor tests)
  placed_on_places [] on = tt
  placed_on_places (t ∷ ts) on =
      let p = and_parts (on_board g.width g.height anchor.x anchor.y t.atom) _ on in
      let q = and_parts (on_side g.width (led t.atom.x anchor.x)) _ p.0 in
      (cell_is_place g (record { x = led t.atom.x anchor.x; y = led t.atom.y anchor.y }) q.0 q.1, placed_on_places ts p.1)

  -- ---- of an item that fits

  module _ (item : List Atom) (tests : List Test) (part : AllOn item → AllOn (test_atoms tests)) where
    part_on : fits g.width g.height item anchor.x anchor.y ≡ true → AllOn (test_atoms tests)
    part_on f = part (fits_parts g.width g.height item anchor.x anchor.y f).2

    pub fitting_hold : (board : Board) → tests_hold (shown g board) (fitting_tests g item tests anchor) ≡ (fits g.width g.height item anchor.x anchor.y && list_all (test_holds g.width board anchor.x anchor.y) tests)
    fitting_hold board = at (fits g.width g.height item anchor.x anchor.y) refl
      where
        at : (t : Bool) → fits g.width g.height item anchor.x anchor.y ≡ t
            → tests_hold (shown g board) (if t then Some (tests_from anchor tests) else None) ≡ (t && list_all (test_holds g.width board anchor.x anchor.y) tests)
        at true e = placed_hold board tests (part_on e)
        at false e = refl

    pub fitting_places : TestCells (IsPlace g) (fitting_tests g item tests anchor)
    fitting_places = at (fits g.width g.height item anchor.x anchor.y) refl
      where
        at : (t : Bool) → fits g.width g.height item anchor.x anchor.y ≡ t → TestCells (IsPlace g) (if t then Some (tests_from anchor tests) else None)
        at true e = placed_on_places tests (part_on e)
        at false e = tt

    pub fitting_count : tests_in (fitting_tests g item tests anchor) ≤ length tests
    fitting_count = at (fits g.width g.height item anchor.x anchor.y)
      where
        at : (t : Bool) → tests_in (if t then Some (tests_from anchor tests) else None) ≤ length tests
        at true = let e : length (tests_from anchor tests) ≡ length tests = length-map tests _ in omega (arith, e)
        at false = omega arith

-- ---- moves

before_on : (g : Game) (anchor : Cell) (a : Action) → AllOn g anchor (action_atoms a) → AllOn g anchor (test_atoms a.before)
before_on g anchor a on = all_front (on_board g.width g.height anchor.x anchor.y) (test_atoms a.before) a.effects on

pub move_tests_hold : (g : Game) (board : Board) (side : Side) (m : Move) → tests_hold (shown g board) (move_tests g side m) ≡ legal g board side m
move_tests_hold g board side m = at (slice_get (actions g side) m.action)
  where
    anchor : Cell
    anchor = record { x = m.x; y = m.y }

    at : (o : Option Action) → tests_hold (shown g board) (action_tests g o (record { x = m.x; y = m.y })) ≡ legal_with g board o m.x m.y
    at None = refl
    at (Some a) = fitting_hold g (record { x = m.x; y = m.y }) (action_atoms a) a.before (before_on g (record { x = m.x; y = m.y }) a) board

pub move_places : (g : Game) (side : Side) (m : Move) → TestCells (IsPlace g) (move_tests g side m)
move_places g side m = at (slice_get (actions g side) m.action)
  where
    at : (o : Option Action) → TestCells (IsPlace g) (action_tests g o (record { x = m.x; y = m.y }))
    at None = tt
    at (Some a) = fitting_places g (record { x = m.x; y = m.y }) (action_atoms a) a.before (before_on g (record { x = m.x; y = m.y }) a)

most_preconditions_at : (acts : List Action) (n : ℕ) (a : Action) → slice_get acts n ≡ Some a → length a.before ≤ most_preconditions acts
most_preconditions_at [] n a e = absurd cc
most_preconditions_at (b ∷ more) zero a e = let s : a ≡ b = cc in omega (arith, ap (λ c. length c.before) s)
most_preconditions_at (b ∷ more) (suc n) a e = omega (arith, most_preconditions_at more n a e)

pub move_count : (g : Game) (side : Side) (m : Move) → tests_in (move_tests g side m) ≤ most_preconditions (actions g side)
move_count g side m = at (slice_get (actions g side) m.action) refl
  where
    at : (o : Option Action) → slice_get (actions g side) m.action ≡ o → tests_in (action_tests g o (record { x = m.x; y = m.y })) ≤ most_preconditions (actions g side)
    at None e = omega arith
    at (Some a) e = omega (arith, fitting_count g (record { x = m.x; y = m.y }) (action_atoms a) a.before (before_on g (record { x = m.x; y = m.y }) a), most_preconditions_at (actions g side) m.action a e)

no_action_tests : (g : Game) (side : Side) (m : Move) → actions g side ≡ [] → move_tests g side m ≡ None
no_action_tests g side m empty = rw empty

-- the tests of a code are those of its own bits
pub move_tests_same : (g : Game) (side : Side) (v n : ℕ) (a b : Assignment) → SameBelow (v + code_bits g (actions g side)) a b
    → move_tests g side (coded_move g side a (span v n)) ≡ move_tests g side (coded_move g side b (span v n))
move_tests_same g side v n a b s = elim (code_same g side v n a b s) [
  | inl empty ↦ no_action_tests g side _ empty ∙ sym (no_action_tests g side _ empty)
  | inr same ↦ ap (move_tests g side) same
]
