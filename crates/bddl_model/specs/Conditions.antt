-- The conditions of the encoding at one place of the board: the moves up to Black's claim are legal there, the claim holds there, and the refuting number answers White's attack there.
use Rattle.std.specs.Prelude.{ℕ, zero, suc, Bool, true, false, not, ◌&&◌, ◌||◌, ◌==◌, nat_le, nat_lt, List, [], ◌∷◌, Option, None, Some, if◌then◌else◌}
use Rattle.std.specs.List.{list_all}
use Rattle.bddl_model.specs.declared.game.Mark.{Mark}
use Rattle.bddl_model.specs.declared.game.Side.{Side}
use Rattle.bddl_model.specs.declared.game.Side.TheVariants.{Black, White}
use Rattle.bddl_model.specs.declared.game.Test.{Test}
use Rattle.bddl_model.specs.Fitting.{passes}

-- ---- tests of cells

-- a column and a row, from 1 on; a place is one too
pub record Cell : Type 0 where
  pub x : ℕ
  pub y : ℕ

-- a test at its cell
pub record PlacedTest : Type 0 where
  pub cell : Cell
  pub test : Test

abbrev pub same_cell : Cell → Cell → Bool
same_cell c d = (c.x == d.x) && (c.y == d.y)

-- where the test's cell is the place, the mark passes
abbrev pub passes_at : Cell → Mark → PlacedTest → Bool
passes_at place mark t = not (same_cell t.cell place) || passes mark t.test

-- where the test's cell is the place, the mark fails
abbrev pub fails_at : Cell → Mark → PlacedTest → Bool
fails_at place mark t = not (same_cell t.cell place) || not (passes mark t.test)

-- the tests are there, and each passes at the place
abbrev pub all_pass_at : Cell → Mark → Option (List PlacedTest) → Bool
all_pass_at place mark None = false
all_pass_at place mark (Some ts) = list_all (passes_at place mark) ts

-- the number is below the number of tests, and this one fails at the place
abbrev pub one_fails_at : Cell → Mark → ℕ → List PlacedTest → Bool
one_fails_at place mark n [] = false
one_fails_at place mark zero (t ∷ ts) = fails_at place mark t
one_fails_at place mark (suc n) (t ∷ ts) = one_fails_at place mark n ts

-- ---- what the values of the inputs say

-- a ply: the preconditions of Black's code, or of White's sample, and those of White's code, each where the code is in range
pub record Ply : Type 0 where
  pub side : Side
  pub own : Option (List PlacedTest)
  pub code : Option (List PlacedTest)

-- Black's claim: whether it is that a code was illegal, its time, its line where it is in range and the anchor fits it, and its atom number
pub record Claim : Type 0 where
  pub illegal : Bool
  pub time : ℕ
  pub line : Option (List PlacedTest)
  pub atom : ℕ

-- White's goal: its line where it is in range and the anchor fits it, and its time
pub record Attack : Type 0 where
  pub line : Option (List PlacedTest)
  pub time : ℕ

-- ---- the conditions

abbrev pub each_below : ℕ → (ℕ → Bool) → Bool
each_below zero test = true
each_below (suc n) test = test n && each_below n test

abbrev pub is_white : Side → Bool
is_white Black = false
is_white White = true

-- the code is out of range, or its precondition of this number is there and fails at the place
abbrev pub is_refused : Cell → Mark → ℕ → Option (List PlacedTest) → Bool
is_refused place mark n None = true
is_refused place mark n (Some ts) = one_fails_at place mark n ts

-- the claim's time is at most the depth
abbrev pub in_time : ℕ → Claim → Bool
in_time depth c = nat_le c.time depth

-- For each ply up to the time, Black's code, or White's sample, is in range, and each precondition whose cell is the place holds at the moment before the ply. The ply at moment i is `plies i`.
abbrev pub moves_pass : (ℕ → Ply) → (ℕ → Mark) → ℕ → Cell → Bool
moves_pass plies marks time place = each_below time (λ i. all_pass_at place (marks i) (plies i).own)

-- where the claim is that Black's goal stands: the line is one of Black's, the anchor fits it, and each test whose cell is the place holds at the claim's time
abbrev pub goal_claimed : (ℕ → Mark) → Claim → Cell → Bool
goal_claimed marks c place = all_pass_at place (marks c.time) c.line

-- where the claim is that a code is illegal: the ply that ends at the time is White's, and its code is out of range or has a precondition of the claim's atom number, and where that one's cell is the place, it fails at the moment before
abbrev pub illegal_claimed : (ℕ → Ply) → (ℕ → Mark) → ℕ → ℕ → Cell → Bool
illegal_claimed plies marks zero n place = false
illegal_claimed plies marks (suc i) n place = is_white (plies i).side && is_refused place (marks i) n (plies i).code

abbrev pub claim_holds : (ℕ → Ply) → (ℕ → Mark) → Claim → Cell → Bool
claim_holds plies marks c place = if c.illegal then illegal_claimed plies marks c.time c.atom place else goal_claimed marks c place

-- where the attack's line is one of White's, its anchor fits it and its time is below the claim's: the line has a test of the refuting number, and where that one's cell is the place, it fails at the attack's time
abbrev pub is_answered : (ℕ → Mark) → Attack → ℕ → ℕ → Cell → Bool
is_answered marks w time refuting place = elim w.line [
  | None ↦ true
  | Some ts ↦ not (nat_lt w.time time) || one_fails_at place (marks w.time) refuting ts
]

-- all of them, at the place; the marks are those there, moment by moment
abbrev pub conditions : ℕ → (ℕ → Ply) → (ℕ → Mark) → Claim → Attack → ℕ → Cell → Bool
conditions depth plies marks c w refuting place =
    in_time depth c
    && (moves_pass plies marks c.time place
    && (claim_holds plies marks c place
    && is_answered marks w c.time refuting place))
