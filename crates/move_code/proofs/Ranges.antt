-- Rectangles on the board, and the gates that test them.
use Rattle.std.proofs.Common.{◌≡◌, ◌≢◌, ℕ, ◌+◌, ◌-◌, ◌*◌, ◌≤◌, ◌<◌, Bool, true, false, ◌&&◌, ◌||◌, ◌==◌, nat_le, List, ◌++◌, length, Ok, inl, inr, refl, sym, ap, ap₂, ◌∙◌, arith, eq-eqb, ne_eqb, lt-ltb, le-ltb}
use Rattle.std.specs.Prelude.{nat_lt, slice_get}
use Rattle.std.proofs.lemmas.Bool.{cases_lt, cases_eq}
use Rattle.std.proofs.lemmas.Bool.Decides.{nat_tests}
use Rattle.std.proofs.lemmas.Option.{slice_get-get_or, slice_get_past}
use Rattle.bddl_model.specs.declared.circuit.Wire.{Wire}
use Rattle.bddl_model.specs.declared.game.Side.{Side}
use Rattle.bddl_model.specs.declared.game.Atom.{Atom}
use Rattle.bddl_model.specs.declared.game.Move.{Move}
use Rattle.bddl_model.specs.declared.game.Rect.{Rect}
use Rattle.bddl_model.specs.Truth.{Assignment}
use Rattle.bddl_model.specs.Circuit.{Circuit, holds}
use Rattle.bddl_model.specs.Growth.{Grows, Makes}
use Rattle.bddl_model.specs.Words.{word_value}
use Rattle.bddl_model.specs.Game.{Game, action_atoms, actions, action_at}
use Rattle.bddl_model.specs.Rectangle.{in_rect, IsRectOf}
use Rattle.bddl_model.specs.Codes.{fits_action, in_range}
use Rattle.bddl_model.proofs.Growth.{grows_then}
use Rattle.bddl_model.proofs.WireWords.{word_stays, value_kept}
use Rattle.bddl_model.proofs.Anchors.{on_side_low, anchor_on_board, in_rect_fits}
use Rattle.move_code.specs.declared.range.CodeWords.{CodeWords}
use Rattle.move_code.specs.CodeWords.{AreCodeWires, CountsFromOne, spelled, is_at}

pub between_from_one : (low high n : ℕ) → 1 ≤ low → 1 ≤ high → (nat_le (low - 1) n && nat_le n (high - 1)) ≡ (nat_le low (n + 1) && nat_le (n + 1) high)
between_from_one low high n a b = grind (arith, nat_tests)

-- ---- rectangles

pub rect_counts_from_one : (width height : ℕ) (atoms : List Atom) (r : Rect) → IsRectOf width height atoms r → CountsFromOne r
rect_counts_from_one width height atoms r is =
    let columns = is.columns in
    let rows = is.rows in
    let least = anchor_on_board width height r.x_low r.y_low atoms (in_rect_fits width height atoms r r.x_low r.y_low is (record { x_low = omega arith; x_high = columns; y_low = omega arith; y_high = rows })) in
    let left = on_side_low width r.x_low least.0 in
    let top = on_side_low height r.y_low least.1 in
    record { columns = (left, omega arith); rows = (top, omega arith) }

-- ---- words in a circuit that grows

module _ (most : ℕ) (old new : Circuit) (words : CodeWords) (g : Grows most old new) (are : AreCodeWires old words) where
  pub code_wires_stay : AreCodeWires new words
  code_wires_stay = record {
    action = word_stays most old new words.action.now g are.action;
    x = word_stays most old new words.x.now g are.x;
    y = word_stays most old new words.y.now g are.y;
    short = are.short;
  }

  pub spelled_kept : (a : Assignment) → spelled new words a ≡ spelled old words a
  spelled_kept a = rw (value_kept most old new words.action.now a g are.action, value_kept most old new words.x.now a g are.x, value_kept most old new words.y.now a g are.y) refl

-- ---- the gates of one action

abbrev pub is_between : ℕ → ℕ → ℕ → Bool
is_between low high n = nat_le low n && nat_le n high

pub names_held : {first second third : ℕ} {start one two three four : Circuit} {named in_columns in_rows inside : Wire} (words : CodeWords) (action : ℕ) (r : Rect)
    → Makes first start one (Ok named) (λ a. word_value start words.action.now a == action)
    → Makes second one two (Ok in_columns) (λ a. is_between r.x_low r.x_high (word_value one words.x.now a + 1))
    → Makes third two three (Ok in_rows) (λ a. is_between r.y_low r.y_high (word_value two words.y.now a + 1))
    → Makes 1 three four (Ok inside) (λ a. holds three in_columns a && holds three in_rows a)
    → AreCodeWires start words → (a : Assignment) → (holds four named a && holds four inside a) ≡ is_at action r (spelled start words a)
names_held {named = named} {in_columns = in_columns} words action r tested columns rows both are a =
    ap₂ (λ s t. s && t)
    (both.grows.kept named a (rows.grows.wires named (columns.grows.wires named tested.wire)) ∙ rows.grows.kept named a (columns.grows.wires named tested.wire) ∙ columns.grows.kept named a tested.wire ∙ tested.value a)
    (both.value a ∙ ap₂ (λ s t. s && t)
    (rows.grows.kept in_columns a columns.wire ∙ columns.value a ∙ ap (λ n. is_between r.x_low r.x_high (n + 1)) (value_kept _ _ _ words.x.now a tested.grows are.x))
    (rows.value a ∙ ap (λ n. is_between r.y_low r.y_high (n + 1)) (value_kept _ _ _ words.y.now a (grows_then tested.grows columns.grows) are.y)))

-- ---- the actions of a side, one after the other

pub each_more : (i gates : ℕ) → (i + 1) * gates ≡ i * gates + gates
each_more i gates = grind arith

module _ (g : Game) (side : Side) (m : Move) where
  -- the actions before number i were tested, and now that one
  pub one_action_more : (i : ℕ) (r : Rect) (before after : Bool) → i < length (actions g side)
      → IsRectOf g.width g.height (action_atoms (action_at g side i)) r
      → before ≡ (nat_lt m.action i && in_range g side m)
      → after ≡ (before || is_at i r m)
      → after ≡ (nat_lt m.action (i + 1) && in_range g side m)
  one_action_more i r before after lt is e h = h ∙ ap (λ b. b || is_at i r m) e ∙ elim (cases_eq m.action i) [
    | inl here ↦
        let found : in_range g side m ≡ in_rect r m.x m.y =
        ap (λ n. fits_action g (slice_get (actions g side) n) m.x m.y) here
        ∙ ap (λ a. fits_action g a m.x m.y) (slice_get-get_or (actions g side) i _ lt)
        ∙ sym (is.anchors m.x m.y) in
        rw (le-ltb m.action i (omega arith), eq-eqb m.action i here, lt-ltb m.action (i + 1) (omega arith)) (sym found)
    | inr other ↦ rw (ne_eqb m.action i other) (elsewhere i other)
  ]
    where
      elsewhere : (i : ℕ) → m.action ≢ i → ((nat_lt m.action i && in_range g side m) || false) ≡ (nat_lt m.action (i + 1) && in_range g side m)
      elsewhere i other = elim (cases_lt m.action i) [
        | inl before ↦ rw (lt-ltb m.action i before, lt-ltb m.action (i + 1) (omega arith)) (or_false (in_range g side m))
        | inr behind ↦ rw (le-ltb m.action i behind, le-ltb m.action (i + 1) (omega arith)) refl
      ]
        where
          or_false : (b : Bool) → (b || false) ≡ b
          or_false true = refl
          or_false false = refl

  pub past_the_last : length (actions g side) ≤ m.action → in_range g side m ≡ false
  past_the_last le = ap (λ a. fits_action g a m.x m.y) (slice_get_past (actions g side) m.action le)

  pub all_actions : (i : ℕ) → length (actions g side) ≤ i → (nat_lt m.action i && in_range g side m) ≡ in_range g side m
  all_actions i le = elim (cases_lt m.action i) [
    | inl lt ↦ rw (lt-ltb m.action i lt) refl
    | inr past ↦ rw (le-ltb m.action i past) (sym (past_the_last (omega arith)))
  ]
