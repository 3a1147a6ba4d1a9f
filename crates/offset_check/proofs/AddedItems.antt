-- A game to which the items of a side are added one after the other.
use Rattle.std.proofs.Common.{◌≡◌, ℕ, ◌+◌, ◌<◌, ◌≤◌, false, nat_lt, List, [], ◌∷◌, ◌++◌, length, get_or, take, drop, map, Option, None, refl, sym, ap, ap₂, ◌∙◌, arith}
use Rattle.std.proofs.lemmas.List.{take_more, at_drop_more, map-append}
use Rattle.std.proofs.Math.Numerals.{suc-eq-add-one}
use Rattle.std.proofs.lemmas.Bool.Decides.{nat_tests}
use Rattle.bddl_model.specs.declared.game.Side.{Side}
use Rattle.bddl_model.specs.declared.game.Side.TheVariants.{Black, White}
use Rattle.bddl_model.specs.declared.game.Test.{Test}
use Rattle.bddl_model.specs.declared.texts.TestText.{TestText}
use Rattle.bddl_model.specs.declared.texts.ActionText.{ActionText}
use Rattle.bddl_model.specs.declared.check.CheckFault.{CheckFault}
use Rattle.bddl_model.specs.Game.{Game, Action, with_action, with_line}
use Rattle.bddl_model.specs.Setup.{action_of, tests_of}
use Rattle.bddl_model.specs.Check.{first_of, fault_if, action_fault, each_action, line_fault, each_line}
use Rattle.offset_check.specs.Checks.{with_actions, with_lines}
use Rattle.offset_check.proofs.Faults.{Stops, stops, passes, stops_same}

-- ---- at most so many

pub not_too_many : (most n : ℕ) (f : CheckFault) → n ≤ most → fault_if (nat_lt most n) f ≡ None
not_too_many most n f few =
    let within : nat_lt most n ≡ false = grind (arith, nat_tests) in
    rw within refl

-- ---- lines

same_sizes : (g : Game) (side : Side) (lines : List (List Test)) → ((with_lines g side lines).width ≡ g.width) × ((with_lines g side lines).height ≡ g.height)
same_sizes g Black lines = (refl, refl)
same_sizes g White lines = (refl, refl)

pub lines_at : (g now : Game) (side : Side) (lines : List (List Test)) → now ≡ with_lines g side lines → (now.width ≡ g.width) × (now.height ≡ g.height)
lines_at g now side lines e = rw e (same_sizes g side lines)

one_line_more : (g : Game) (side : Side) (lines : List (List Test)) (l : List Test) → with_line (with_lines g side lines) side l ≡ with_lines g side (lines ++ l ∷ [])
one_line_more g Black lines l = refl
one_line_more g White lines l = refl

pub lines_added : (g now next : Game) (side : Side) (lines : List (List TestText)) (i : ℕ) (l d : List TestText) → i < length lines → l ≡ get_or lines i d
    → now ≡ with_lines g side (map (tests_of g.width g.height) (take i lines))
    → next ≡ with_line now side (tests_of now.width now.height l)
    → next ≡ with_lines g side (map (tests_of g.width g.height) (take (i + 1) lines))
lines_added g now next side lines i l d h is before after =
    let made = tests_of g.width g.height in
    let sizes = lines_at g now side (map made (take i lines)) before in
    let items : map made (take (i + 1) lines) ≡ map made (take i lines) ++ made (get_or lines i d) ∷ [] = ap (map made) (take_more lines i d h) ∙ map-append made (take i lines) (get_or lines i d ∷ []) in
    let same : tests_of now.width now.height l ≡ made (get_or lines i d) = rw (sizes.0, sizes.1, is) refl in
    after ∙ ap₂ (λ game line. with_line game side line) before same ∙ one_line_more g side (map made (take i lines)) (made (get_or lines i d)) ∙ ap (with_lines g side) (sym items)

module _ (width height w h : ℕ) (wide : w ≡ width) (high : h ≡ height) (side : Side) (lines : List (List TestText)) (i : ℕ) (l d : List TestText) (within : i < length lines) (is : l ≡ get_or lines i d) where
  abbrev lines_from : ℕ → List (List TestText) → Option CheckFault
  lines_from number rest = first_of (each_line width height side number rest)

  pub lines_passed : line_fault w h side (i + 1) l ≡ None → lines_from (i + 1 + 1) (drop (i + 1) lines) ≡ lines_from (i + 1) (drop i lines)
  lines_passed passed =
      let here : line_fault width height side (i + 1) (get_or lines i d) ≡ None = rw (sym wide, sym high, sym is) passed in
      ap (λ n. lines_from n (drop (i + 1) lines)) (sym (suc-eq-add-one (i + 1)))
      ∙ sym (at_drop_more (lines_from (i + 1)) lines i d within ∙ passes (line_fault width height side (i + 1) (get_or lines i d)) _ here)

  pub lines_stopped : (f : CheckFault) → Stops (line_fault w h side (i + 1) l) f → Stops (lines_from (i + 1) (drop i lines)) f
  lines_stopped f stopped =
      let here = stops_same _ (line_fault width height side (i + 1) (get_or lines i d)) f (rw (wide, high, is) refl) stopped in
      stops_same _ _ f (sym (at_drop_more (lines_from (i + 1)) lines i d within)) (stops _ _ f here)

-- ---- actions

same_action_sizes : (g : Game) (side : Side) (actions : List Action) → ((with_actions g side actions).width ≡ g.width) × ((with_actions g side actions).height ≡ g.height)
same_action_sizes g Black actions = (refl, refl)
same_action_sizes g White actions = (refl, refl)

pub actions_at : (g now : Game) (side : Side) (actions : List Action) → now ≡ with_actions g side actions → (now.width ≡ g.width) × (now.height ≡ g.height)
actions_at g now side actions e = rw e (same_action_sizes g side actions)

one_action_more : (g : Game) (side : Side) (actions : List Action) (a : Action) → with_action (with_actions g side actions) side a ≡ with_actions g side (actions ++ a ∷ [])
one_action_more g Black actions a = refl
one_action_more g White actions a = refl

pub actions_added : (g now next : Game) (side : Side) (actions : List ActionText) (i : ℕ) (a d : ActionText) → i < length actions → a ≡ get_or actions i d
    → now ≡ with_actions g side (map (action_of g.width g.height) (take i actions))
    → next ≡ with_action now side (action_of now.width now.height a)
    → next ≡ with_actions g side (map (action_of g.width g.height) (take (i + 1) actions))
actions_added g now next side actions i a d h is before after =
    let made = action_of g.width g.height in
    let sizes = actions_at g now side (map made (take i actions)) before in
    let items : map made (take (i + 1) actions) ≡ map made (take i actions) ++ made (get_or actions i d) ∷ [] = ap (map made) (take_more actions i d h) ∙ map-append made (take i actions) (get_or actions i d ∷ []) in
    let same : action_of now.width now.height a ≡ made (get_or actions i d) = rw (sizes.0, sizes.1, is) refl in
    after ∙ ap₂ (λ game action. with_action game side action) before same ∙ one_action_more g side (map made (take i actions)) (made (get_or actions i d)) ∙ ap (with_actions g side) (sym items)

module _ (width height w h : ℕ) (wide : w ≡ width) (high : h ≡ height) (side : Side) (actions : List ActionText) (i : ℕ) (a d : ActionText) (within : i < length actions) (is : a ≡ get_or actions i d) where
  abbrev from_here : List ActionText → List ActionText → Option CheckFault
  from_here before rest = first_of (each_action width height side before rest)

  pub actions_passed : action_fault w h side (take i actions) a ≡ None
      → first_of (each_action width height side (take (i + 1) actions) (drop (i + 1) actions)) ≡ first_of (each_action width height side (take i actions) (drop i actions))
  actions_passed passed =
      let here : action_fault width height side (take i actions) (get_or actions i d) ≡ None = rw (sym wide, sym high, sym is) passed in
      sym (at_drop_more (from_here (take i actions)) actions i d within
      ∙ passes (action_fault width height side (take i actions) (get_or actions i d)) _ here
      ∙ ap (λ front. from_here front (drop (i + 1) actions)) (sym (take_more actions i d within)))

  pub actions_stopped : (f : CheckFault) → Stops (action_fault w h side (take i actions) a) f → Stops (first_of (each_action width height side (take i actions) (drop i actions))) f
  actions_stopped f stopped =
      let here = stops_same _ (action_fault width height side (take i actions) (get_or actions i d)) f (rw (wide, high, is) refl) stopped in
      stops_same _ _ f (sym (at_drop_more (from_here (take i actions)) actions i d within)) (stops _ _ f here)
