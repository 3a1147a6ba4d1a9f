-- The three words of a code, and the move that they spell.
use Rattle.std.specs.Prelude.{ℕ, ◌≡◌, ◌+◌, ◌*◌, ◌≤◌, Bool, ◌==◌, ◌&&◌, List, length}
use Rattle.bddl_model.specs.declared.circuit.Wire.{Wire}
use Rattle.bddl_model.specs.declared.game.Side.{Side}
use Rattle.bddl_model.specs.declared.game.Move.{Move}
use Rattle.bddl_model.specs.declared.game.Rect.{Rect}
use Rattle.bddl_model.specs.Truth.{Assignment}
use Rattle.bddl_model.specs.Circuit.{Circuit}
use Rattle.bddl_model.specs.Words.{AreWires, word_bits, word_value}
use Rattle.bddl_model.specs.Game.{Game}
use Rattle.bddl_model.specs.Rectangle.{in_rect}
use Rattle.bddl_model.specs.Layout.{anchor_bits}
use Rattle.bddl_model.specs.Codes.{shape_of, spelled_move}
use Rattle.move_code.specs.declared.range.CodeWords.{CodeWords}

-- wires of the circuit, and at most sixteen of them for a column and for a row
pub record AreCodeWires (c : Circuit) (words : CodeWords) : Type 0 where
  pub action : AreWires c words.action.now
  pub x : AreWires c words.x.now
  pub y : AreWires c words.y.now
  pub short : (length words.x.now ≤ 16) × (length words.y.now ≤ 16)

abbrev pub spelled : Circuit → CodeWords → Assignment → Move
spelled c words a = record { action = word_value c words.action.now a; x = word_value c words.x.now a + 1; y = word_value c words.y.now a + 1 }

-- the gates that test for one action
abbrev pub action_gates : CodeWords → ℕ
action_gates words = length words.action.now + 2 * length words.x.now + 2 * length words.y.now + 4

-- the words of the side's code: they are wires where the code is, they take few gates, and they spell its move
pub record AreWordsOf (g : Game) (side : Side) (code : List Wire) (words : CodeWords) : Type 0 where
  pub wires : (c : Circuit) → AreWires c code → AreCodeWires c words
  pub gates : action_gates words + 1 ≤ 4 * (anchor_bits g + 4)
  pub move : (c : Circuit) (a : Assignment) → spelled c words a ≡ spelled_move (shape_of g side) (word_bits c code a)

-- the move is of the action, at an anchor of the rectangle
abbrev pub is_at : ℕ → Rect → Move → Bool
is_at action rect m = (m.action == action) && in_rect rect m.x m.y

-- the rectangle's sides count from 1
pub record CountsFromOne (r : Rect) : Type 0 where
  pub columns : (1 ≤ r.x_low) × (1 ≤ r.x_high)
  pub rows : (1 ≤ r.y_low) × (1 ≤ r.y_high)
