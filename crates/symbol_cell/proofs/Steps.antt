-- One effect more, and one action more.
use Rattle.std.proofs.Common.{◌≡◌, ◌≢◌, ℕ, suc, ◌<◌, ◌≤◌, ◌+◌, ◌*◌, Bool, true, false, ◌&&◌, ◌==◌, nat_lt, if◌then◌else◌, List, [], ◌∷◌, length, get_or, drop, ◌⊎◌, Option, None, Some, inl, inr, refl, sym, ap, ap₂, ◌∙◌, arith, eq-eqb, ne_eqb}
use Rattle.std.specs.Prelude.{slice_get, Result, Ok, Err, IfOk}
use Rattle.std.proofs.lemmas.Bool.{cases_eq, cases_lt, lt-ltb, le-ltb}
use Rattle.std.proofs.lemmas.List.{drop_more}
use Rattle.std.proofs.lemmas.Option.{slice_get-get_or, slice_get_past}
use Rattle.bddl_model.specs.declared.circuit.Wire.{Wire}
use Rattle.bddl_model.specs.declared.game.Mark.{Mark}
use Rattle.bddl_model.specs.declared.game.Atom.{Atom}
use Rattle.bddl_model.specs.Truth.{Assignment}
use Rattle.bddl_model.specs.Circuit.{Circuit, IsWire, holds}
use Rattle.bddl_model.specs.Conditions.{Cell}
use Rattle.bddl_model.specs.Game.{Action}
use Rattle.bddl_model.specs.Moves.{effects_of}
use Rattle.bddl_model.specs.Growth.{Grows}
use Rattle.bddl_model.specs.OneCell.{touches, rewritten, spelled_cell}
use Rattle.bddl_model.specs.declared.memory.NoMemory.{NoMemory}
use Rattle.bddl_model.specs.Words.{AreWires, word_bits, word_value}
use Rattle.bddl_model.proofs.WireWords.{word_stays, word_kept, value_kept}
use Rattle.symbol_cell.specs.declared.pair.Pair.{Pair}
use Rattle.symbol_cell.specs.declared.step.Cells.{Cells}
use Rattle.symbol_cell.specs.Pairs.{IsPair, mark_of, mark_shown}
use Rattle.symbol_cell.specs.Steps.{AreCells, anchor_of, place_of, rewritten_if}

-- ---- what stays while the circuit grows

pub cells_stay : (most : ℕ) (old new : Circuit) (cells : Cells) → Grows most old new → AreCells old cells → AreCells new cells
cells_stay most old new cells g are = record {
  anchor = word_stays most old new cells.anchor.now g are.anchor;
  place = word_stays most old new cells.place.now g are.place;
  lengths = are.lengths;
  columns = are.columns;
  short = are.short;
}

pub anchor_kept : (most : ℕ) (old new : Circuit) (cells : Cells) (a : Assignment) → Grows most old new → AreCells old cells → anchor_of new cells a ≡ anchor_of old cells a
anchor_kept most old new cells a g are = ap (spelled_cell cells.x_bits) (word_kept most old new cells.anchor.now a g are.anchor)

pub place_kept : (most : ℕ) (old new : Circuit) (cells : Cells) (a : Assignment) → Grows most old new → AreCells old cells → place_of new cells a ≡ place_of old cells a
place_kept most old new cells a g are = ap (spelled_cell cells.x_bits) (word_kept most old new cells.place.now a g are.place)

pub pair_stays : (most : ℕ) (old new : Circuit) (p : Pair) → Grows most old new → IsPair old p → IsPair new p
pair_stays most old new p g is = record {
  black = g.wires p.black is.black;
  white = g.wires p.white is.white;
  apart = λ a. ap₂ (λ x y. x && y) (g.kept p.black a is.black) (g.kept p.white a is.white) ∙ is.apart a;
}

pub mark_kept : (most : ℕ) (old new : Circuit) (p : Pair) (a : Assignment) → Grows most old new → IsPair old p → mark_of new p a ≡ mark_of old p a
mark_kept most old new p a g is = ap₂ mark_shown (g.kept p.black a is.black) (g.kept p.white a is.white)

-- ---- effects

-- The circuit was c before the effects, it is d before this one, and e behind it.
pub effect_turn : (most i : ℕ) (c d e : Circuit) (effects : List Atom) (none : Atom) (named : Wire) (cells : Cells) (before after : Pair) (a : Assignment) (whole : Mark)
    → Grows most c d → IsWire c named → AreCells c cells → i < length effects
    → rewritten_if (holds c named a) (drop i effects) (anchor_of c cells a) (place_of c cells a) (mark_of d before a) ≡ whole
    → mark_of e after a ≡ (if holds d named a && touches (get_or effects i none) (anchor_of d cells a) (place_of d cells a) then (get_or effects i none).mark else mark_of d before a)
    → rewritten_if (holds c named a) (drop (i + 1) effects) (anchor_of c cells a) (place_of c cells a) (mark_of e after a) ≡ whole
effect_turn most i c d e effects none named cells before after a whole g is are lt h put =
    let effect = get_or effects i none in
    ap (rewritten_if (holds c named a) (drop (i + 1) effects) (anchor_of c cells a) (place_of c cells a))
    (put ∙ ap (λ t. if t then effect.mark else mark_of d before a) (ap₂ (λ x y. x && y) (g.kept named a is) (ap₂ (touches effect) (anchor_kept most c d cells a g are) (place_kept most c d cells a g are))))
    ∙ ap (λ left. rewritten_if (holds c named a) left (anchor_of c cells a) (place_of c cells a) (mark_of d before a)) (sym (drop_more effects i none lt))
    ∙ h

pub where_named : (named : Bool) (effects : List Atom) (anchor place : Cell) (mark : Mark) → rewritten_if named effects anchor place mark ≡ (if named then rewritten effects anchor place mark else mark)
where_named true [] anchor place mark = refl
where_named false [] anchor place mark = refl
where_named true (e ∷ effects) anchor place mark = where_named true effects anchor place (if touches e anchor place then e.mark else mark)
where_named false (e ∷ effects) anchor place mark = where_named false effects anchor place mark

-- ---- actions

-- the mark after the effects of an action, by the wire that says whether it is named
pub action_shown : (most number : ℕ) (c d e : Circuit) (action : List Wire) (effects : List Atom) (named : Wire) (cells : Cells) (before : Pair) (result : Result Pair NoMemory)
    → Grows most c d → AreCells c cells → IsPair c before
    → ((a : Assignment) → holds d named a ≡ (word_value c action a == number))
    → IfOk result (λ p. (a : Assignment) → mark_of e p a ≡ rewritten_if (holds d named a) effects (anchor_of d cells a) (place_of d cells a) (mark_of d before a))
    → IfOk result (λ p. (a : Assignment) → mark_of e p a ≡ (if word_value c action a == number then rewritten effects (anchor_of c cells a) (place_of c cells a) (mark_of c before a) else mark_of c before a))
action_shown most number c d e action effects named cells before (Err f) g are is says made = tt
action_shown most number c d e action effects named cells before (Ok p) g are is says made = λ a.
    made a
    ∙ where_named (holds d named a) effects (anchor_of d cells a) (place_of d cells a) (mark_of d before a)
    ∙ ap₂ (λ t m. if t then rewritten effects (anchor_of d cells a) (place_of d cells a) m else m) (says a) (mark_kept most c d before a g is)
    ∙ ap₂ (λ x y. if word_value c action a == number then rewritten effects x y (mark_of c before a) else mark_of c before a) (anchor_kept most c d cells a g are) (place_kept most c d cells a g are)

-- the effects of the action of this number, if there is one
abbrev after_action : List Action → ℕ → Cell → Cell → Mark → Mark
after_action acts n anchor place mark = rewritten (effects_of (slice_get acts n)) anchor place mark

-- action number i was tried, and those before it; n is the one that is named
pub action_turn : (acts : List Action) (i n : ℕ) (none : Action) (effects : List Atom) (anchor place : Cell) (mark before after : Mark) → i < length acts → effects ≡ (get_or acts i none).effects
    → before ≡ (if nat_lt n i then after_action acts n anchor place mark else mark)
    → after ≡ (if n == i then rewritten effects anchor place before else before)
    → after ≡ (if nat_lt n (i + 1) then after_action acts n anchor place mark else mark)
action_turn acts i n none effects anchor place mark before after lt es h put = elim (cases_eq n i) [
  | inl here ↦
      let fresh : before ≡ mark = h ∙ ap (λ b. if b then after_action acts n anchor place mark else mark) (le-ltb n i (omega arith)) in
      let found : slice_get acts n ≡ Some (get_or acts i none) = ap (slice_get acts) here ∙ slice_get-get_or acts i none lt in
      put
      ∙ ap (λ b. if b then rewritten effects anchor place before else before) (eq-eqb n i here)
      ∙ ap₂ (λ l m. rewritten l anchor place m) (es ∙ sym (ap effects_of found)) fresh
      ∙ sym (ap (λ b. if b then after_action acts n anchor place mark else mark) (lt-ltb n (i + 1) (omega arith)))
  | inr other ↦
      put
      ∙ ap (λ b. if b then rewritten effects anchor place before else before) (ne_eqb n i other)
      ∙ h
      ∙ ap (λ b. if b then after_action acts n anchor place mark else mark) (same (cases_lt n i) other)
]
  where
    same : (n < i) ⊎ (i ≤ n) → n ≢ i → nat_lt n i ≡ nat_lt n (i + 1)
    same (inl below) apart = lt-ltb n i below ∙ sym (lt-ltb n (i + 1) (omega arith))
    same (inr above) apart = le-ltb n i above ∙ sym (le-ltb n (i + 1) (omega (arith, apart)))

pub all_actions : (acts : List Action) (n count : ℕ) (anchor place : Cell) (mark last : Mark) → count ≡ length acts → last ≡ (if nat_lt n count then after_action acts n anchor place mark else mark) → last ≡ after_action acts n anchor place mark
all_actions acts n count anchor place mark last e h = elim (cases_lt n (length acts)) [
  | inl below ↦ h ∙ ap (λ b. if b then after_action acts n anchor place mark else mark) (lt-ltb n count (omega arith))
  | inr past ↦
      h
      ∙ ap (λ b. if b then after_action acts n anchor place mark else mark) (le-ltb n count (omega arith))
      ∙ sym (ap (λ found. rewritten (effects_of found) anchor place mark) (slice_get_past acts n past))
]

-- what an action writes, by the words as they stood before all actions
pub action_put : (most number : ℕ) (c d e : Circuit) (action : List Wire) (effects : List Atom) (cells : Cells) (before after : Pair) (a : Assignment)
    → Grows most c d → AreWires c action → AreCells c cells
    → mark_of e after a ≡ (if word_value d action a == number then rewritten effects (anchor_of d cells a) (place_of d cells a) (mark_of d before a) else mark_of d before a)
    → mark_of e after a ≡ (if word_value c action a == number then rewritten effects (anchor_of c cells a) (place_of c cells a) (mark_of d before a) else mark_of d before a)
action_put most number c d e action effects cells before after a g wires are put =
    put
    ∙ ap (λ n. if n == number then rewritten effects (anchor_of d cells a) (place_of d cells a) (mark_of d before a) else mark_of d before a) (value_kept most c d action a g wires)
    ∙ ap₂ (λ x y. if word_value c action a == number then rewritten effects x y (mark_of d before a) else mark_of d before a) (anchor_kept most c d cells a g are) (place_kept most c d cells a g are)
