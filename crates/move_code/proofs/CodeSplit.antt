-- A code is split into its words.
use Rattle.std.proofs.Common.{◌≡◌, ℕ, zero, suc, ◌+◌, ◌*◌, ◌≤◌, List, [], ◌∷◌, length, take, drop, refl, sym, ap, ◌∙◌, subst, arith}
use Rattle.std.proofs.Math.Nat.{mul-le-mul_right}
use Rattle.std.proofs.lemmas.List.{length-take-le, length-drop, take-map, drop-map}
use Rattle.bddl_model.specs.declared.circuit.Wire.{Wire}
use Rattle.bddl_model.specs.declared.game.Side.{Side}
use Rattle.bddl_model.specs.declared.game.Side.TheVariants.{Black, White}
use Rattle.bddl_model.specs.Truth.{Assignment}
use Rattle.bddl_model.specs.Circuit.{Circuit, holds}
use Rattle.bddl_model.specs.Bits.{bits}
use Rattle.bddl_model.specs.Words.{AreWires, word_bits, number_of_bits}
use Rattle.bddl_model.specs.Game.{Game, actions}
use Rattle.bddl_model.specs.Limits.{IsGame}
use Rattle.bddl_model.specs.Layout.{anchor_bits}
use Rattle.bddl_model.specs.Codes.{Shape, shape_of, code_length, spelled_move}
use Rattle.bddl_model.proofs.Bits.{bits_most}
use Rattle.bddl_model.proofs.Codes.{some_actions}
use Rattle.bddl_model.proofs.WireWords.{word_front, word_behind}
use Rattle.move_code.specs.declared.range.CodeWords.{CodeWords}
use Rattle.move_code.specs.CodeWords.{AreCodeWires, AreWordsOf, spelled, action_gates}

few_actions : (g : Game) (side : Side) → IsGame g → length (actions g side) ≤ 8
few_actions g Black is = is.black.few_actions
few_actions g White is = is.white.few_actions

pub few_gates : (g : Game) (side : Side) → IsGame g → length (actions g side) * (4 * (anchor_bits g + 4)) ≤ 512
few_gates g side is =
    let each = mul-le-mul_right (4 * (anchor_bits g + 4)) (few_actions g side is) in
    let columns = bits_most g.width 6 (omega (arith, is.width)) in
    let rows = bits_most g.height 6 (omega (arith, is.height)) in
    omega arith

-- the parts into which a code is cut
pub record AreParts (s : Shape) (code : List Wire) (words : CodeWords) : Type 0 where
  pub action : words.action.now ≡ take (bits s.actions) code
  pub x : words.x.now ≡ take (bits s.width) (drop (bits s.actions) code)
  pub y : words.y.now ≡ drop (bits s.width) (drop (bits s.actions) code)

module _ (g : Game) (side : Side) (is : IsGame g) (some : 1 ≤ length (actions g side)) (code : List Wire) (l : length code ≡ code_length (shape_of g side)) (words : CodeWords) (parts : AreParts (shape_of g side) code words) where
  abbrev s : Shape
  s = shape_of g side

  lengths : (length words.action.now ≡ bits s.actions) × (length words.x.now ≡ bits s.width) × (length words.y.now ≡ bits s.height)
  lengths =
      let whole = l ∙ some_actions s some in
      let behind = length-drop (bits s.actions) code in
      let last = length-drop (bits s.width) (drop (bits s.actions) code) in
      let y = ap length parts.y in (
        ap length parts.action ∙ length-take-le (bits s.actions) code (omega arith),
        ap length parts.x ∙ length-take-le (bits s.width) (drop (bits s.actions) code) (omega arith),
        omega arith,
      )

  words_are_wires : (c : Circuit) → AreWires c code → AreCodeWires c words
  words_are_wires c are =
      let counts = lengths in
      let columns = bits_most g.width 6 (omega (arith, is.width)) in
      let rows = bits_most g.height 6 (omega (arith, is.height)) in
      let anchor = word_behind c (bits s.actions) code are in
      record {
        action = subst (AreWires c) (sym parts.action) (word_front c (bits s.actions) code are);
        x = subst (AreWires c) (sym parts.x) (word_front c (bits s.width) (drop (bits s.actions) code) anchor);
        y = subst (AreWires c) (sym parts.y) (word_behind c (bits s.width) (drop (bits s.actions) code) anchor);
        short = (omega arith, omega arith);
      }

  gates_within : action_gates words + 1 ≤ 4 * (anchor_bits g + 4)
  gates_within =
      let counts = lengths in
      let action = bits_most s.actions 3 (few_actions g side is) in
      omega arith

  spelled_by_words : (c : Circuit) (a : Assignment) → spelled c words a ≡ spelled_move s (word_bits c code a)
  spelled_by_words c a = rw (ap number_of_bits action, ap number_of_bits x, ap number_of_bits y) refl
    where
      action : word_bits c words.action.now a ≡ take (bits s.actions) (word_bits c code a)
      action = ap (λ ws. word_bits c ws a) parts.action ∙ sym (take-map (λ w. holds c w a) (bits s.actions) code)

      behind : drop (bits s.actions) (word_bits c code a) ≡ word_bits c (drop (bits s.actions) code) a
      behind = drop-map (λ w. holds c w a) (bits s.actions) code

      x : word_bits c words.x.now a ≡ take (bits s.width) (drop (bits s.actions) (word_bits c code a))
      x = ap (λ ws. word_bits c ws a) parts.x ∙ sym (ap (take (bits s.width)) behind ∙ take-map (λ w. holds c w a) (bits s.width) (drop (bits s.actions) code))

      y : word_bits c words.y.now a ≡ drop (bits s.width) (drop (bits s.actions) (word_bits c code a))
      y = ap (λ ws. word_bits c ws a) parts.y ∙ sym (ap (drop (bits s.width)) behind ∙ drop-map (λ w. holds c w a) (bits s.width) (drop (bits s.actions) code))

  pub parts_are_words : AreWordsOf g side code words
  parts_are_words = record { wires = words_are_wires; gates = gates_within; move = spelled_by_words }
