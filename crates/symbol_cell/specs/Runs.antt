-- Plies whose codes are words of wires, and the pairs that show the mark of one place from moment to moment.
use Rattle.std.specs.Prelude.{ℕ, ◌≡◌, ◌*◌, true, All, List, [], ◌∷◌, length}
use Rattle.bddl_model.specs.declared.circuit.Wire.{Wire}
use Rattle.bddl_model.specs.declared.game.Side.{Side}
use Rattle.bddl_model.specs.declared.game.Move.{Move}
use Rattle.bddl_model.specs.Truth.{Assignment}
use Rattle.bddl_model.specs.Bits.{bits}
use Rattle.bddl_model.specs.Board.{Board}
use Rattle.bddl_model.specs.Circuit.{Circuit}
use Rattle.bddl_model.specs.Codes.{shape_of, code_length, spelled_move}
use Rattle.bddl_model.specs.Conditions.{Cell}
use Rattle.bddl_model.specs.Encoding.{shown}
use Rattle.bddl_model.specs.Game.{Game}
use Rattle.bddl_model.specs.Layout.{anchor_bits}
use Rattle.bddl_model.specs.Moves.{legal, after}
use Rattle.bddl_model.specs.OneCell.{spelled_cell}
use Rattle.bddl_model.specs.Words.{AreWires, word_bits}
use Rattle.symbol_cell.specs.declared.pair.Pair.{Pair}
use Rattle.symbol_cell.specs.Pairs.{IsPair, mark_of}

-- a ply: whose it is, and the wires of its code
pub record Ply : Type 0 where
  pub side : Side
  pub code : List Wire

-- the place, the plies, and a pair for each moment, which are one more than the plies
pub record Run : Type 0 where
  pub place : List Wire
  pub plies : List Ply
  pub pairs : List Pair

-- the move that the code names, and the cell that the place's wires name
abbrev pub named : Game → Circuit → Assignment → Ply → Move
named g c a p = spelled_move (shape_of g p.side) (word_bits c p.code a)

abbrev pub place_named : Game → Circuit → Assignment → List Wire → Cell
place_named g c a place = spelled_cell (bits g.width) (word_bits c place a)

-- the first plies name these moves, each of which is legal on the board before it
abbrev pub Name : Game → Circuit → Assignment → Board → List Ply → List Move → Type 0
Name g c a b plies [] = Unit {0}
Name g c a b [] (m ∷ ms) = ⊥
Name g c a b (p ∷ plies) (m ∷ ms) = (named g c a p ≡ m) × (legal g b p.side m ≡ true) × Name g c a (after g b p.side m) plies ms

-- the board after these moves of the plies' sides
abbrev pub board_after : Game → Board → List Ply → List Move → Board
board_after g b plies [] = b
board_after g b [] (m ∷ ms) = b
board_after g b (p ∷ plies) (m ∷ ms) = board_after g (after g b p.side m) plies ms

-- The first pair shows the place's mark on the board. Where the first ply names a legal move, the others do so from the board after it on.
abbrev pub Follow : Game → Circuit → Assignment → Cell → Board → List Ply → List Pair → Type 0
Follow g c a place b [] (p ∷ []) = mark_of c p a ≡ shown g b place
Follow g c a place b (s ∷ plies) (p ∷ pairs) =
    (mark_of c p a ≡ shown g b place)
    × (legal g b s.side (named g c a s) ≡ true → Follow g c a place (after g b s.side (named g c a s)) plies pairs)
Follow g c a place b _ _ = ⊥

-- wires of the circuit, as many as the side's codes have
pub record IsPly (g : Game) (c : Circuit) (p : Ply) : Type 0 where
  pub wires : AreWires c p.code
  pub bits : length p.code ≡ code_length (shape_of g p.side)

-- The wires are of the circuit, and under each assignment of its inputs the pairs show the place's marks, as long as the plies name legal moves from this board on.
pub record Stands (r : Run) (c : Circuit) (g : Game) (board : Board) : Type 0 where
  pub place : AreWires c r.place
  pub place_bits : length r.place ≡ anchor_bits g
  pub plies : All (IsPly g c) r.plies
  pub pairs : All (IsPair c) r.pairs
  pub size : length board ≡ g.height * g.width
  pub follow : (a : Assignment) → Follow g c a (place_named g c a r.place) board r.plies r.pairs
