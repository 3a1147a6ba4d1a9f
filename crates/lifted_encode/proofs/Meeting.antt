-- What is asked of tests, one after the other, in a circuit that grows.
use Rattle.std.proofs.Common.{◌≡◌, ℕ, suc, ◌<◌, ◌+◌, Bool, true, false, not, ◌&&◌, ◌||◌, if◌then◌else◌, List, length, get_or, drop, refl, sym, ap, ap₂, ◌∙◌, arith}
use Rattle.std.proofs.lemmas.List.{drop_more}
use Rattle.bddl_model.specs.declared.circuit.Wire.{Wire}
use Rattle.bddl_model.specs.declared.game.Mark.{Mark}
use Rattle.bddl_model.specs.declared.game.Test.{Test}
use Rattle.bddl_model.specs.Truth.{Assignment}
use Rattle.bddl_model.specs.Board.{same_mark}
use Rattle.bddl_model.specs.Circuit.{Circuit, IsWire, holds}
use Rattle.bddl_model.specs.Conditions.{Cell, same_cell, passes_at, fails_at}
use Rattle.bddl_model.specs.Fitting.{passes}
use Rattle.bddl_model.specs.Growth.{Grows}
use Rattle.bddl_model.specs.OneCell.{touches}
use Rattle.bddl_model.proofs.WireWords.{word_stays, value_kept}
use Rattle.symbol_cell.specs.Pairs.{mark_of}
use Rattle.symbol_cell.specs.Steps.{anchor_of, place_of}
use Rattle.symbol_cell.proofs.Steps.{cells_stay, anchor_kept, place_kept, pair_stays, mark_kept}
use Rattle.lifted_encode.specs.declared.asked.Asked.{Asked}
use Rattle.lifted_encode.specs.declared.asked.Asked.TheVariants.{AllPass, Unrefuted}
use Rattle.lifted_encode.specs.declared.asked.Spot.{Spot}
use Rattle.lifted_encode.specs.Asking.{Question, unrefuted, Here, placed, meets, meet_from, IsAsked, question, IsSpot, here_of}
use Rattle.lifted_encode.proofs.Booleans.{and_associates}

-- ---- what stays while the circuit grows

module _ (most : ℕ) (old new : Circuit) (g : Grows most old new) where
  pub asked_stays : (q : Asked) → IsAsked old q → IsAsked new q
  asked_stays AllPass is = tt
  asked_stays (Unrefuted number) is = (word_stays most old new number.now g is.0, is.1)

  pub question_kept : (q : Asked) (a : Assignment) → IsAsked old q → question new q a ≡ question old q a
  question_kept AllPass a is = refl
  question_kept (Unrefuted number) a is = ap unrefuted (value_kept most old new number.now a g is.0)

  pub spot_stays : (s : Spot) → IsSpot old s → IsSpot new s
  spot_stays s is = record { cells = cells_stay most old new s.cells g is.cells; mark = pair_stays most old new s.mark g is.mark }

  pub here_kept : (s : Spot) (a : Assignment) → IsSpot old s → here_of new s a ≡ here_of old s a
  here_kept s a is = rw (anchor_kept most old new s.cells a g is.cells, place_kept most old new s.cells a g is.cells, mark_kept most old new s.mark a g is.mark) refl

-- ---- one test

-- the wires of a test: that its cell is the place, and that the mark passes
module _ {m n : ℕ} {c d e : Circuit} (s : Spot) (t : Test) (here passed : Wire) (a : Assignment) (g : Grows m c d) (h : Grows n d e) (is : IsSpot c s) where
  pub test_here : IsWire d here → holds d here a ≡ touches t.atom (anchor_of c s.cells a) (place_of c s.cells a) → holds e here a ≡ same_cell (placed (anchor_of c s.cells a) t).cell (place_of c s.cells a)
  test_here wire v = h.kept here a wire ∙ v

  pub test_passed : holds e passed a ≡ passes (mark_of d s.mark a) t → holds e passed a ≡ passes (mark_of c s.mark a) t
  test_passed v = v ∙ ap (λ mark. passes mark t) (mark_kept m c d s.mark a g is.mark)

-- the opposite test passes where this one fails
pub opposite_fails : (place anchor : Cell) (mark : Mark) (t : Test) → passes_at place mark (placed anchor (record t { negated = not t.negated })) ≡ fails_at place mark (placed anchor t)
opposite_fails place anchor mark t = ap (λ b. not (same_cell (placed anchor t).cell place) || b) (turned t.negated (same_mark mark t.atom.mark))
  where
    turned : (negated same : Bool) → (if not negated then not same else same) ≡ not (if negated then not same else same)
    turned true true = refl
    turned true false = refl
    turned false same = refl

-- ---- one test more

-- test number i was asked, and those before it
pub meet_turn : (q p : Question) (i : ℕ) (here there : Here) (tests : List Test) (none : Test) (known after whole : Bool) → i < length tests → p ≡ q → there ≡ here
    → (known && meet_from q i here (drop i tests)) ≡ whole
    → after ≡ (known && meets p i there (get_or tests i none))
    → (after && meet_from q (i + 1) here (drop (i + 1) tests)) ≡ whole
meet_turn q p i here there tests none known after whole lt same still so_far v =
    ap (λ x. x && meet_from q (i + 1) here (drop (i + 1) tests)) (v ∙ ap₂ (λ u w. known && meets u i w (get_or tests i none)) same still)
    ∙ and_associates known (meets q i here (get_or tests i none)) (meet_from q (i + 1) here (drop (i + 1) tests))
    ∙ ap (λ k. known && (meets q i here (get_or tests i none) && meet_from q k here (drop (i + 1) tests))) up
    ∙ sym (ap (λ left. known && meet_from q i here left) (drop_more tests i none lt))
    ∙ so_far
  where
    up : i + 1 ≡ suc i
    up = omega arith
