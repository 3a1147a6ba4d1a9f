-- What is asked of the tests of an item, as the conditions say it of tests at their cells.
use Rattle.std.proofs.Common.{◌≡◌, ℕ, zero, suc, ◌<◌, ◌+◌, Bool, true, false, not, ◌&&◌, List, [], ◌∷◌, if◌then◌else◌, Option, None, Some, refl, ap, ◌∙◌, arith, eq-eqb, ne_eqb}
use Rattle.std.specs.Prelude.{slice_get}
use Rattle.std.specs.List.{list_all}
use Rattle.std.specs.Option.{option_map}
use Rattle.std.proofs.lemmas.Option.{slice_get-map}
use Rattle.bddl_model.specs.declared.game.Mark.{Mark}
use Rattle.bddl_model.specs.declared.game.Side.{Side}
use Rattle.bddl_model.specs.declared.game.Test.{Test}
use Rattle.bddl_model.specs.Conditions.{Cell, PlacedTest, passes_at, fails_at, all_pass_at, one_fails_at, is_refused}
use Rattle.bddl_model.specs.Encoding.{tests_from, action_tests, move_tests, placed_line, line_tests}
use Rattle.bddl_model.specs.Fitting.{fits}
use Rattle.bddl_model.specs.Game.{Game, Action, action_atoms, line_atoms, actions, lines}
use Rattle.lifted_encode.specs.declared.items.Items.TheVariants.{Actions, Lines}
use Rattle.lifted_encode.specs.Asking.{Question, all_pass, unrefuted, Here, placed, meet_from, are_met, found_met}
use Rattle.lifted_encode.specs.Chosen.{of_action, of_line, items_of, item_meets}
use Rattle.lifted_encode.proofs.Booleans.{and_true, not_not}

-- ---- tests

all_met : (number : ℕ) (here : Here) (ts : List Test) → meet_from all_pass number here ts ≡ list_all (passes_at here.place here.mark) (tests_from here.anchor ts)
all_met number here [] = refl
all_met number here (t ∷ ts) = ap (λ b. passes_at here.place here.mark (placed here.anchor t) && b) (all_met (suc number) here ts)

-- behind the test of the number nothing is asked
met_behind : (n number : ℕ) (here : Here) (ts : List Test) → n < number → meet_from (unrefuted n) number here ts ≡ true
met_behind n number here [] lt = refl
met_behind n number here (t ∷ ts) lt = rw (ne_eqb n number (omega arith)) (met_behind n (suc number) here ts (omega arith))

-- so many tests are left before the one of the number
unrefuted_met : (left n number : ℕ) (here : Here) (ts : List Test) → n ≡ number + left → meet_from (unrefuted n) number here ts ≡ not (one_fails_at here.place here.mark left (tests_from here.anchor ts))
unrefuted_met left n number here [] e = refl
unrefuted_met zero n number here (t ∷ ts) e =
    rw (eq-eqb n number (omega arith), met_behind n (suc number) here ts (omega arith)) (and_true (not (fails_at here.place here.mark (placed here.anchor t))))
unrefuted_met (suc left) n number here (t ∷ ts) e = rw (ne_eqb n number (omega arith)) (unrefuted_met left n (suc number) here ts (omega arith))

pub tests_met : (q : Question) (here : Here) (ts : List Test) → meet_from q 0 here ts ≡ are_met q here.place here.mark (tests_from here.anchor ts)
tests_met all_pass here ts = all_met 0 here ts
tests_met (unrefuted n) here ts = unrefuted_met n n 0 here ts (omega arith)

-- ---- items

fitting_met : (fit : Bool) (q : Question) (here : Here) (ts : List Test)
    → (fit && meet_from q 0 here ts) ≡ found_met q here.place here.mark (if fit then Some (tests_from here.anchor ts) else None)
fitting_met true q here ts = tests_met q here ts
fitting_met false q here ts = refl

module _ (g : Game) (q : Question) (here : Here) where
  action_found : (o : Option Action) → item_meets g (option_map of_action o) q here ≡ found_met q here.place here.mark (action_tests g o here.anchor)
  action_found None = refl
  action_found (Some a) = fitting_met (fits g.width g.height (action_atoms a) here.anchor.x here.anchor.y) q here a.before

  line_found : (o : Option (List Test)) → item_meets g (option_map of_line o) q here ≡ found_met q here.place here.mark (placed_line g o here.anchor)
  line_found None = refl
  line_found (Some l) = fitting_met (fits g.width g.height (line_atoms l) here.anchor.x here.anchor.y) q here l

  -- the preconditions of a move
  pub action_told : (side : Side) (n : ℕ) → item_meets g (slice_get (items_of g (Actions side)) n) q here
      ≡ found_met q here.place here.mark (move_tests g side (record { action = n; x = here.anchor.x; y = here.anchor.y }))
  action_told side n = ap (λ o. item_meets g o q here) (slice_get-map of_action (actions g side) n) ∙ action_found (slice_get (actions g side) n)

  pub line_told : (side : Side) (n : ℕ) → item_meets g (slice_get (items_of g (Lines side)) n) q here ≡ found_met q here.place here.mark (line_tests g side n here.anchor)
  line_told side n = ap (λ o. item_meets g o q here) (slice_get-map of_line (lines g side) n) ∙ line_found (slice_get (lines g side) n)

-- ---- the words of the conditions

pub found_pass : (place : Cell) (mark : Mark) (o : Option (List PlacedTest)) → found_met all_pass place mark o ≡ all_pass_at place mark o
found_pass place mark None = refl
found_pass place mark (Some ts) = refl

pub found_refused : (place : Cell) (mark : Mark) (n : ℕ) (o : Option (List PlacedTest)) → not (found_met (unrefuted n) place mark o) ≡ is_refused place mark n o
found_refused place mark n None = refl
found_refused place mark n (Some ts) = not_not (one_fails_at place mark n ts)
