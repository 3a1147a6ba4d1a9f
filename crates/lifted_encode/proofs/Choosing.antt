-- The items of a game, one after the other, and the one that is chosen.
use Rattle.std.proofs.Common.{◌≡◌, ◌≢◌, ℕ, ◌+◌, ◌≤◌, ◌<◌, Bool, false, ◌&&◌, ◌||◌, ◌==◌, List, [], length, get_or, take, drop, inl, inr, refl, sym, ap, ◌∙◌, arith, eq-eqb, ne_eqb, lt-ltb, le-ltb}
use Rattle.std.specs.Prelude.{nat_lt, slice_get}
use Rattle.std.proofs.lemmas.Bool.{cases_lt, cases_eq}
use Rattle.std.proofs.lemmas.List.{get_or-map, length-map}
use Rattle.std.proofs.lemmas.Option.{slice_get-get_or, slice_get_past}
use Rattle.std.proofs.lemmas.List.Elements.{All-get_or}
use Rattle.bddl_model.specs.declared.circuit.Wire.{Wire}
use Rattle.bddl_model.specs.declared.game.Rect.{Rect}
use Rattle.bddl_model.specs.declared.game.Side.{Side}
use Rattle.bddl_model.specs.declared.game.Side.TheVariants.{Black, White}
use Rattle.bddl_model.specs.declared.game.Test.{Test}
use Rattle.bddl_model.specs.Truth.{Assignment}
use Rattle.bddl_model.specs.Bits.{bits}
use Rattle.bddl_model.specs.Circuit.{Circuit}
use Rattle.bddl_model.specs.Game.{Game, actions, lines, action_at, line_at}
use Rattle.bddl_model.specs.Limits.{IsGame, IsAction, IsLine, AreItems}
use Rattle.bddl_model.specs.Rectangle.{in_rect, IsRectOf}
use Rattle.bddl_model.specs.Words.{number_of_bits, word_value}
use Rattle.bddl_model.proofs.Bits.{bits_most}
use Rattle.bddl_model.proofs.WireWords.{front_bits, behind_bits}
use Rattle.symbol_cell.specs.declared.step.Cells.{Cells}
use Rattle.symbol_cell.specs.Steps.{anchor_of}
use Rattle.lifted_encode.specs.declared.items.Items.{Items}
use Rattle.lifted_encode.specs.declared.items.Items.TheVariants.{Actions, Lines}
use Rattle.lifted_encode.specs.Asking.{Question, Here, meet_from}
use Rattle.lifted_encode.specs.Chosen.{Item, of_action, of_line, items_of, item_at, item_meets}
use Rattle.lifted_encode.proofs.Booleans.{or_false}

-- ---- what an item has

items_within : (g : Game) (side : Side) → IsGame g → AreItems g.width g.height (actions g side) (lines g side)
items_within g Black is = is.black
items_within g White is = is.white

pub few_lines : (g : Game) (side : Side) → IsGame g → bits (length (lines g side)) ≤ 8
few_lines g side is = bits_most (length (lines g side)) 8 (items_within g side is).few_lines

pub few_tests : (g : Game) (items : Items) (n : ℕ) → IsGame g → n < length (items_of g items) → length (item_at g items n).tests ≤ 16
few_tests g (Actions side) n is lt =
    let within : n < length (actions g side) = omega (arith, length-map (actions g side) of_action) in
    let action : IsAction g.width g.height (action_at g side n) = All-get_or (IsAction g.width g.height) (actions g side) n _ within (items_within g side is).each_action in
    let same = ap (λ (i : Item). length i.tests) (get_or-map of_action (actions g side) n (record { name = []; before = []; effects = [] }) (record { tests = []; atoms = [] }) within) in
    omega (arith, action.before, same)
few_tests g (Lines side) n is lt =
    let within : n < length (lines g side) = omega (arith, length-map (lines g side) of_line) in
    let line : IsLine g.width g.height (line_at g side n) = All-get_or (IsLine g.width g.height) (lines g side) n _ within (items_within g side is).each_line in
    let same = ap (λ (i : Item). length i.tests) (get_or-map of_line (lines g side) n [] (record { tests = []; atoms = [] }) within) in
    omega (arith, line.tests, same)

-- ---- the words of an anchor

pub anchor_spelled : (c : Circuit) (cells : Cells) (x y : List Wire) (a : Assignment) → x ≡ take cells.x_bits cells.anchor.now → y ≡ drop cells.x_bits cells.anchor.now
    → (word_value c x a + 1 ≡ (anchor_of c cells a).x) × (word_value c y a + 1 ≡ (anchor_of c cells a).y)
anchor_spelled c cells x y a front behind = (
  ap (λ ws. word_value c ws a + 1) front ∙ ap (λ bs. number_of_bits bs + 1) (front_bits c cells.x_bits cells.anchor.now a),
  ap (λ ws. word_value c ws a + 1) behind ∙ ap (λ bs. number_of_bits bs + 1) (behind_bits c cells.x_bits cells.anchor.now a),
)

-- ---- one item more

module _ (g : Game) (items : List Item) (n : ℕ) (q : Question) (here : Here) where
  -- the items before number i were tried, and now that one
  pub item_turn : (i : ℕ) (none : Item) (r : Rect) (before after : Bool) → i < length items
      → IsRectOf g.width g.height (get_or items i none).atoms r
      → before ≡ (nat_lt n i && item_meets g (slice_get items n) q here)
      → after ≡ (before || (n == i && in_rect r here.anchor.x here.anchor.y) && meet_from q 0 here (get_or items i none).tests)
      → after ≡ (nat_lt n (i + 1) && item_meets g (slice_get items n) q here)
  item_turn i none r before after lt is e h =
      h ∙ ap (λ b. b || (n == i && in_rect r here.anchor.x here.anchor.y) && meet_from q 0 here (get_or items i none).tests) e ∙ elim (cases_eq n i) [
        | inl this ↦
            let found : item_meets g (slice_get items n) q here ≡ (in_rect r here.anchor.x here.anchor.y && meet_from q 0 here (get_or items i none).tests) =
            ap (λ k. item_meets g (slice_get items k) q here) this
            ∙ ap (λ o. item_meets g o q here) (slice_get-get_or items i none lt)
            ∙ ap (λ b. b && meet_from q 0 here (get_or items i none).tests) (sym (is.anchors here.anchor.x here.anchor.y)) in
            rw (le-ltb n i (omega arith), eq-eqb n i this, lt-ltb n (i + 1) (omega arith)) (sym found)
        | inr other ↦ rw (ne_eqb n i other) (elsewhere i other)
      ]
    where
      elsewhere : (i : ℕ) → n ≢ i → ((nat_lt n i && item_meets g (slice_get items n) q here) || false) ≡ (nat_lt n (i + 1) && item_meets g (slice_get items n) q here)
      elsewhere i other = elim (cases_lt n i) [
        | inl below ↦ rw (lt-ltb n i below, lt-ltb n (i + 1) (omega arith)) (or_false (item_meets g (slice_get items n) q here))
        | inr behind ↦ rw (le-ltb n i behind, le-ltb n (i + 1) (omega arith)) refl
      ]

  pub all_tried : (i : ℕ) → length items ≤ i → (nat_lt n i && item_meets g (slice_get items n) q here) ≡ item_meets g (slice_get items n) q here
  all_tried i le = elim (cases_lt n i) [
    | inl lt ↦ rw (lt-ltb n i lt) refl
    | inr past ↦ rw (le-ltb n i past) (sym (ap (λ o. item_meets g o q here) (slice_get_past items n (omega arith))))
  ]

-- what an item adds, by the words as they stood before all items
pub also_kept : (i n : ℕ) (tests its : List Test) {m : ℕ} (r : Rect) (known after : Bool) {p q : Question} {there here : Here} → tests ≡ its → m ≡ n → p ≡ q → there ≡ here
    → after ≡ (known || (m == i && in_rect r there.anchor.x there.anchor.y) && meet_from p 0 there tests)
    → after ≡ (known || (n == i && in_rect r here.anchor.x here.anchor.y) && meet_from q 0 here its)
also_kept i n tests its r known after e word ask place h = rw (sym e, sym word, sym ask, sym place) h
