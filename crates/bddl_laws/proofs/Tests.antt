-- Tests of cells that all hold on a board pass at each place; where one fails, it fails at its own cell, and its number tells it at each place.
use Rattle.std.proofs.Common.{◌≡◌, ℕ, zero, suc, ◌<◌, Bool, true, false, not, ◌&&◌, List, [], ◌∷◌, length, inl, inr, refl, sym, ap, ap₂, subst, arith, Option, Some, None, eqb-true, eq-eqb}
use Rattle.std.specs.Prelude.{◌==◌}
use Rattle.std.specs.List.{list_all}
use Rattle.std.proofs.lemmas.Bool.{or_from, or_left, or_right, and_parts, and_from, and_left, and_right, cases_Bool, false≢true}
use Rattle.bddl_model.specs.declared.game.Mark.{Mark}
use Rattle.bddl_model.specs.Fitting.{passes}
use Rattle.bddl_model.specs.Conditions.{Cell, PlacedTest, same_cell, passes_at, fails_at, one_fails_at}

-- the mark of each cell
abbrev pub Marks : Type 0
Marks = Cell → Mark

abbrev pub holds_on : Marks → PlacedTest → Bool
holds_on board t = passes (board t.cell) t.test

abbrev pub all_hold : Marks → List PlacedTest → Bool
all_hold board ts = list_all (holds_on board) ts

abbrev pub tests_hold : Marks → Option (List PlacedTest) → Bool
tests_hold board None = false
tests_hold board (Some ts) = all_hold board ts

abbrev pub AllCells : (Cell → Type 0) → List PlacedTest → Type 0
AllCells Place [] = Unit {0}
AllCells Place (t ∷ ts) = Place t.cell × AllCells Place ts

abbrev pub TestCells : (Cell → Type 0) → Option (List PlacedTest) → Type 0
TestCells Place None = Unit {0}
TestCells Place (Some ts) = AllCells Place ts

pub same_cell_is : (c d : Cell) → same_cell c d ≡ true → c ≡ d
same_cell_is c d h =
    let p = and_parts (c.x == d.x) (c.y == d.y) h in
    ap₂ (λ i j. record { x = i; y = j }) (eqb-true c.x d.x p.0) (eqb-true c.y d.y p.1)

pub same_cell_itself : (c : Cell) → same_cell c c ≡ true
same_cell_itself c = and_from _ _ (eq-eqb c.x c.x refl) (eq-eqb c.y c.y refl)

holding_passes : (board : Marks) (t : PlacedTest) (place : Cell) → holds_on board t ≡ true → passes_at place (board place) t ≡ true
holding_passes board t place h = elim (cases_Bool (same_cell t.cell place)) [
  | inl here ↦ or_right _ _ (subst (λ c. passes (board c) t.test ≡ true) (same_cell_is t.cell place here) h)
  | inr elsewhere ↦ or_left _ _ (ap not elsewhere)
]

failing_fails : (board : Marks) (t : PlacedTest) (place : Cell) → holds_on board t ≡ false → fails_at place (board place) t ≡ true
failing_fails board t place h = elim (cases_Bool (same_cell t.cell place)) [
  | inl here ↦ or_right _ _ (ap not (subst (λ c. passes (board c) t.test ≡ false) (same_cell_is t.cell place here) h))
  | inr elsewhere ↦ or_left _ _ (ap not elsewhere)
]

pub all_pass : (board : Marks) (ts : List PlacedTest) (place : Cell) → all_hold board ts ≡ true → list_all (passes_at place (board place)) ts ≡ true
all_pass board [] place h = refl
all_pass board (t ∷ ts) place h =
    let p = and_parts (holds_on board t) (all_hold board ts) h in
    and_from _ _ (holding_passes board t place p.0) (all_pass board ts place p.1)

-- a failing test, its number and its cell
pub record Failing (Place : Cell → Type 0) (board : Marks) (ts : List PlacedTest) : Type 0 where
  pub number : ℕ
  pub below : number < length ts
  pub cell : Cell
  pub place : Place cell
  pub stops : list_all (passes_at cell (board cell)) ts ≡ false
  pub fails : (p : Cell) → one_fails_at p (board p) number ts ≡ true

pub failing : (Place : Cell → Type 0) (board : Marks) (ts : List PlacedTest) → AllCells Place ts → all_hold board ts ≡ false → Failing Place board ts
failing Place board [] on h = absurd (false≢true (sym h))
failing Place board (t ∷ ts) on h = at (holds_on board t) refl h (λ i. failing Place board ts on.1 i)
  where
    at : (x : Bool) → holds_on board t ≡ x → (x && all_hold board ts) ≡ false → (all_hold board ts ≡ false → Failing Place board ts) → Failing Place board (t ∷ ts)
    at true e h next =
        let f = next h in
        record { number = suc f.number; below = omega (arith, f.below); cell = f.cell; place = f.place; stops = and_right _ _ f.stops; fails = λ p. f.fails p }
    at false e h next =
        record {
          number = 0;
          below = omega arith;
          cell = t.cell;
          place = on.0;
          stops = and_left _ _ (or_from _ _ (ap not (same_cell_itself t.cell)) e);
          fails = λ p. failing_fails board t p e;
        }

-- where all hold, each number fails to tell one that fails, at some place
pub none_fails : (Place : Cell → Type 0) (board : Marks) (ts : List PlacedTest) (n : ℕ) → (p : Cell) × Place p → AllCells Place ts → all_hold board ts ≡ true
    → (p : Cell) × Place p × (one_fails_at p (board p) n ts ≡ false)
none_fails Place board [] n any on h = (any.0, any.1, refl)
none_fails Place board (t ∷ ts) zero any on h =
    (t.cell, on.0, or_from _ _ (ap not (same_cell_itself t.cell)) (ap not (and_parts (holds_on board t) (all_hold board ts) h).0))
none_fails Place board (t ∷ ts) (suc n) any on h = none_fails Place board ts n any on.1 (and_parts (holds_on board t) (all_hold board ts) h).1
