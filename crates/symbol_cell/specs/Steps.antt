-- What a step does, and the gates that it takes.
use Rattle.std.specs.Prelude.{ℕ, ◌≡◌, ◌+◌, ◌*◌, ◌≤◌, ◌&&◌, Bool, List, [], ◌∷◌, length, if◌then◌else◌}
use Rattle.std.specs.List.{sum_by}
use Rattle.bddl_model.specs.declared.game.Mark.{Mark}
use Rattle.bddl_model.specs.declared.game.Atom.{Atom}
use Rattle.bddl_model.specs.declared.game.Move.{Move}
use Rattle.bddl_model.specs.declared.game.Side.{Side}
use Rattle.bddl_model.specs.Truth.{Assignment}
use Rattle.bddl_model.specs.Circuit.{Circuit}
use Rattle.bddl_model.specs.Conditions.{Cell}
use Rattle.bddl_model.specs.Game.{Game, Action, actions}
use Rattle.bddl_model.specs.Layout.{anchor_bits}
use Rattle.bddl_model.specs.OneCell.{touches, spelled_cell}
use Rattle.bddl_model.specs.Words.{AreWires, word_bits}
use Rattle.symbol_cell.specs.declared.step.Cells.{Cells}

-- ---- the words of an anchor and of the place

-- wires of the circuit, as many for one as for the other, the first of them for the columns
pub record AreCells (c : Circuit) (cells : Cells) : Type 0 where
  pub anchor : AreWires c cells.anchor.now
  pub place : AreWires c cells.place.now
  pub lengths : length cells.anchor.now ≡ length cells.place.now
  pub columns : cells.x_bits ≤ length cells.place.now
  pub short : length cells.place.now ≤ 16

abbrev pub anchor_of : Circuit → Cells → Assignment → Cell
anchor_of c cells a = spelled_cell cells.x_bits (word_bits c cells.anchor.now a)

abbrev pub place_of : Circuit → Cells → Assignment → Cell
place_of c cells a = spelled_cell cells.x_bits (word_bits c cells.place.now a)

-- an action at an anchor
abbrev pub move_at : ℕ → Cell → Move
move_at action anchor = record { action = action; x = anchor.x; y = anchor.y }

-- ---- marks

-- the mark at the place after these effects, if their action is named
abbrev pub rewritten_if : Bool → List Atom → Cell → Cell → Mark → Mark
rewritten_if named [] anchor place mark = mark
rewritten_if named (e ∷ effects) anchor place mark = rewritten_if named effects anchor place (if named && touches e anchor place then e.mark else mark)

-- ---- gates

-- for words of so many bits
abbrev pub unit : ℕ → ℕ
unit bits = 24 * (bits + 6)

-- each effect is a part, and so is the naming of the action
abbrev pub parts : Action → ℕ
parts a = length a.effects + 1

abbrev pub step_gates : Game → Side → ℕ
step_gates g side = unit (anchor_bits g) * sum_by parts (actions g side)
