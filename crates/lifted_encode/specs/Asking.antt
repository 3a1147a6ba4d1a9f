-- What is asked, at the place, of the tests of an action or of a goal line.
use Rattle.std.specs.Prelude.{ℕ, suc, ◌≤◌, Bool, true, false, not, ◌&&◌, ◌==◌, List, [], ◌∷◌, length, Option, None, Some}
use Rattle.std.specs.List.{list_all}
use Rattle.bddl_model.specs.declared.game.Mark.{Mark}
use Rattle.bddl_model.specs.declared.game.Test.{Test}
use Rattle.bddl_model.specs.Truth.{Assignment}
use Rattle.bddl_model.specs.Circuit.{Circuit}
use Rattle.bddl_model.specs.Conditions.{Cell, PlacedTest, passes_at, fails_at, one_fails_at}
use Rattle.bddl_model.specs.Fitting.{led}
use Rattle.bddl_model.specs.Words.{AreWires, word_value}
use Rattle.symbol_cell.specs.Pairs.{IsPair, mark_of}
use Rattle.symbol_cell.specs.Steps.{AreCells, anchor_of, place_of}
use Rattle.lifted_encode.specs.declared.asked.Asked.{Asked}
use Rattle.lifted_encode.specs.declared.asked.Asked.TheVariants.{AllPass, Unrefuted}
use Rattle.lifted_encode.specs.declared.asked.Spot.{Spot}

-- ---- under an assignment

-- that all of them pass there, or that the one of this number doesn't fail there
pub data Question : Type 0 where
  all_pass : Question
  unrefuted : ℕ → Question

-- an anchor, the place and the mark at the place
pub record Here : Type 0 where
  pub anchor : Cell
  pub place : Cell
  pub mark : Mark

-- the test at the cell to which it leads from an anchor
abbrev pub placed : Cell → Test → PlacedTest
placed anchor t = record { cell = record { x = led t.atom.x anchor.x; y = led t.atom.y anchor.y }; test = t }

-- what is asked of the test of this number
abbrev pub meets : Question → ℕ → Here → Test → Bool
meets all_pass number here t = passes_at here.place here.mark (placed here.anchor t)
meets (unrefuted n) number here t = not (n == number && fails_at here.place here.mark (placed here.anchor t))

-- what is asked of tests that count from this number on
abbrev pub meet_from : Question → ℕ → Here → List Test → Bool
meet_from q number here [] = true
meet_from q number here (t ∷ ts) = meets q number here t && meet_from q (suc number) here ts

-- the same, of tests at their cells
abbrev pub are_met : Question → Cell → Mark → List PlacedTest → Bool
are_met all_pass place mark ts = list_all (passes_at place mark) ts
are_met (unrefuted n) place mark ts = not (one_fails_at place mark n ts)

-- tests are there, and meet it
abbrev pub found_met : Question → Cell → Mark → Option (List PlacedTest) → Bool
found_met q place mark None = false
found_met q place mark (Some ts) = are_met q place mark ts

-- ---- in a circuit

abbrev pub IsAsked : Circuit → Asked → Type 0
IsAsked c AllPass = Unit {0}
IsAsked c (Unrefuted number) = AreWires c number.now × (length number.now ≤ 16)

abbrev pub question : Circuit → Asked → Assignment → Question
question c AllPass a = all_pass
question c (Unrefuted number) a = unrefuted (word_value c number.now a)

pub record IsSpot (c : Circuit) (s : Spot) : Type 0 where
  pub cells : AreCells c s.cells
  pub mark : IsPair c s.mark

abbrev pub here_of : Circuit → Spot → Assignment → Here
here_of c s a = record { anchor = anchor_of c s.cells a; place = place_of c s.cells a; mark = mark_of c s.mark a }
