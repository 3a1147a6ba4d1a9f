-- A code is its action and its anchor, and both name the move.
use Rattle.std.proofs.Common.{◌≡◌, ℕ, ◌+◌, ◌≤◌, ◌<◌, List, length, take, drop, refl, ap, ap₂, ◌∙◌, sym, arith}
use Rattle.std.specs.Prelude.{Result, Ok, Err, IfOk}
use Rattle.std.proofs.lemmas.List.{length-take-le, length-drop}
use Rattle.bddl_model.specs.declared.circuit.Wire.{Wire}
use Rattle.bddl_model.specs.declared.game.Mark.{Mark}
use Rattle.bddl_model.specs.declared.game.Move.{Move}
use Rattle.bddl_model.specs.declared.game.Side.{Side}
use Rattle.bddl_model.specs.declared.game.Side.TheVariants.{Black, White}
use Rattle.bddl_model.specs.declared.memory.NoMemory.{NoMemory}
use Rattle.bddl_model.specs.Truth.{Assignment}
use Rattle.bddl_model.specs.Bits.{bits}
use Rattle.bddl_model.specs.Circuit.{Circuit}
use Rattle.bddl_model.specs.Codes.{Shape, shape_of, code_length, spelled_move}
use Rattle.bddl_model.specs.Game.{Game, actions}
use Rattle.bddl_model.specs.Layout.{anchor_bits}
use Rattle.bddl_model.specs.Limits.{IsGame}
use Rattle.bddl_model.specs.OneCell.{spelled_cell, stepped}
use Rattle.bddl_model.specs.Words.{AreWires, word_bits, number_of_bits, word_value}
use Rattle.bddl_model.proofs.Bits.{bits_most}
use Rattle.bddl_model.proofs.Codes.{some_actions}
use Rattle.bddl_model.proofs.WireWords.{word_behind, front_bits, behind_bits}
use Rattle.symbol_cell.specs.declared.pair.Pair.{Pair}
use Rattle.symbol_cell.specs.Pairs.{mark_of}
use Rattle.symbol_cell.specs.Steps.{move_at}

few_actions : (g : Game) (side : Side) → IsGame g → length (actions g side) ≤ 8
few_actions g Black is = is.black.few_actions
few_actions g White is = is.white.few_actions

pub anchor_short : (g : Game) → IsGame g → anchor_bits g ≤ 16
anchor_short g is =
    let columns = bits_most g.width 6 is.width.1 in
    let rows = bits_most g.height 6 is.height.1 in
    omega arith

module _ (g : Game) (side : Side) (is : IsGame g) (some : 1 ≤ length (actions g side)) (code : List Wire) (l : length code ≡ code_length (shape_of g side)) where
  abbrev count : ℕ
  count = bits (length (actions g side))

  whole : length code ≡ count + anchor_bits g
  whole = l ∙ some_actions (shape_of g side) some

  pub anchor_length : length (drop count code) ≡ anchor_bits g
  anchor_length = omega (arith, whole, length-drop count code)

  pub action_short : length (take count code) ≤ 16
  action_short =
      let few = bits_most (length (actions g side)) 3 (few_actions g side is) in
      omega (arith, whole, length-take-le count code (omega (arith, whole)))

  pub move_named : (c : Circuit) (a : Assignment) → move_at (word_value c (take count code) a) (spelled_cell (bits g.width) (word_bits c (drop count code) a)) ≡ spelled_move (shape_of g side) (word_bits c code a)
  move_named c a = ap₂ (λ n anchor. move_at (number_of_bits n) (spelled_cell (bits g.width) anchor)) (front_bits c count code a) (behind_bits c count code a)

  -- the parts, however they were cut
  module _ (action anchor : List Wire) (x_bits : ℕ) (front : action ≡ take count code) (behind : anchor ≡ drop count code) (columns : x_bits ≡ bits g.width) where
    pub parts_named : (c : Circuit) (a : Assignment) → move_at (word_value c action a) (spelled_cell x_bits (word_bits c anchor a)) ≡ spelled_move (shape_of g side) (word_bits c code a)
    parts_named c a =
        ap₂ (λ (x y : List Wire). move_at (word_value c x a) (spelled_cell x_bits (word_bits c y a))) front behind
        ∙ ap (λ n. move_at (word_value c (take count code) a) (spelled_cell n (word_bits c (drop count code) a))) columns
        ∙ move_named c a

    pub code_shown : (c e : Circuit) (place : List Wire) (before : Pair) (result : Result Pair NoMemory)
        → IfOk result (λ p. (a : Assignment) → mark_of e p a ≡ stepped g side (move_at (word_value c action a) (spelled_cell x_bits (word_bits c anchor a))) (spelled_cell x_bits (word_bits c place a)) (mark_of c before a))
        → IfOk result (λ p. (a : Assignment) → mark_of e p a ≡ stepped g side (spelled_move (shape_of g side) (word_bits c code a)) (spelled_cell (bits g.width) (word_bits c place a)) (mark_of c before a))
    code_shown c e place before (Err f) h = tt
    code_shown c e place before (Ok p) h = λ a. h a ∙ ap₂ (λ m n. stepped g side m (spelled_cell n (word_bits c place a)) (mark_of c before a)) (parts_named c a) columns
