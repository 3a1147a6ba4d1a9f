-- What an assignment says by the inputs of the encoding: moves, a claim, an attack on it, a refuting number and a place.
use Rattle.std.specs.Prelude.{ℕ, suc, ◌≡◌, ◌≤◌, ◌+◌, Bool, true, ◌&&◌, List, [], ◌∷◌, ◌++◌, length, map, Option, None, Some, slice_get, if◌then◌else◌}
use Rattle.bddl_model.specs.declared.circuit.Wire.{Wire}
use Rattle.bddl_model.specs.declared.formula.Quant.TheVariants.{Exists}
use Rattle.bddl_model.specs.declared.formula.Span.{Span}
use Rattle.bddl_model.specs.declared.game.Mark.{Mark}
use Rattle.bddl_model.specs.declared.game.Mark.TheVariants.{Free}
use Rattle.bddl_model.specs.declared.game.Side.{Side}
use Rattle.bddl_model.specs.declared.game.Side.TheVariants.{Black, White}
use Rattle.bddl_model.specs.declared.game.Atom.{Atom}
use Rattle.bddl_model.specs.declared.game.Test.{Test}
use Rattle.bddl_model.specs.declared.game.Move.{Move}
use Rattle.bddl_model.specs.declared.game.PlyBits.{PlyBits}
use Rattle.bddl_model.specs.Truth.{Assignment, Formula}
use Rattle.bddl_model.specs.Circuit.{Circuit, circuit_clauses}
use Rattle.bddl_model.specs.Bits.{bits, number_at}
use Rattle.bddl_model.specs.Game.{Game, Action, action_atoms, actions, line_atoms, lines, opponent, side_after}
use Rattle.bddl_model.specs.Board.{Board, mark_at}
use Rattle.bddl_model.specs.Fitting.{led, on_side, fits}
use Rattle.bddl_model.specs.Moves.{legal, after}
use Rattle.bddl_model.specs.Setup.{Setup}
use Rattle.bddl_model.specs.Layout.{Inputs, sizes_of, layout, ply_at, end, blocks, bounds, prefix_of}
use Rattle.bddl_model.specs.Conditions.{Cell, PlacedTest, Ply, Claim, Attack, conditions}
use Rattle.bddl_model.specs.Exact.{coded_move, own_code, position, ply_from}

-- ---- tests of a game

-- these tests from an anchor
abbrev pub tests_from : Cell → List Test → List PlacedTest
tests_from anchor tests = map (λ t. record { cell = record { x = led t.atom.x anchor.x; y = led t.atom.y anchor.y }; test = t }) tests

-- the same, where the anchor fits the atoms of a whole item
abbrev pub fitting_tests : Game → List Atom → List Test → Cell → Option (List PlacedTest)
fitting_tests g item tests anchor = if fits g.width g.height item anchor.x anchor.y then Some (tests_from anchor tests) else None

abbrev pub action_tests : Game → Option Action → Cell → Option (List PlacedTest)
action_tests g None anchor = None
action_tests g (Some a) anchor = fitting_tests g (action_atoms a) a.before anchor

-- the preconditions of a move, where the side has its action and the anchor fits
abbrev pub move_tests : Game → Side → Move → Option (List PlacedTest)
move_tests g side m = action_tests g (slice_get (actions g side) m.action) (record { x = m.x; y = m.y })

abbrev pub placed_line : Game → Option (List Test) → Cell → Option (List PlacedTest)
placed_line g None anchor = None
placed_line g (Some line) anchor = fitting_tests g (line_atoms line) line anchor

-- the side's line of this number, where there is one and the anchor fits
abbrev pub line_tests : Game → Side → ℕ → Cell → Option (List PlacedTest)
line_tests g side n anchor = placed_line g (slice_get (lines g side) n) anchor

-- the mark that a board shows at a cell; `Free` off the board
abbrev pub shown : Game → Board → Cell → Mark
shown g board c = if on_side g.width c.x && on_side g.height c.y then mark_at g.width board c.x c.y else Free

-- ---- read from the inputs

abbrev pub number_in : Assignment → Span → ℕ
number_in a s = number_at a s.from s.len

-- the anchor or the place that bits name
abbrev pub cell_in : Game → Assignment → Span → Cell
cell_in g a s = record {
  x = number_at a s.from (bits g.width) + 1;
  y = number_at a (s.from + bits g.width) (bits g.height) + 1;
}

abbrev pub layout_of : Setup → Inputs
layout_of s = layout s.game s.first s.depth

-- the bits of the ply after so many
abbrev pub ply_bits : Setup → ℕ → PlyBits
ply_bits s k = ply_at (sizes_of s.game s.depth) (side_after s.first k) (ply_from s k)

-- the tests of the move that a span names
abbrev pub code_tests : Setup → Assignment → Side → Span → Option (List PlacedTest)
code_tests s a side code = move_tests s.game side (coded_move s.game side a code)

abbrev pub ply_read : Setup → Assignment → ℕ → Ply
ply_read s a k = let p = ply_bits s k in record {
  side = side_after s.first k;
  own = code_tests s a (side_after s.first k) (own_code p);
  code = code_tests s a (side_after s.first k) p.code;
}

abbrev pub claim_read : Setup → Assignment → Claim
claim_read s a = let l = layout_of s in record {
  illegal = a l.kind.from;
  time = number_in a l.time;
  line = line_tests s.game Black (number_in a l.line) (cell_in s.game a l.anchor);
  atom = number_in a l.atom;
}

abbrev pub attack_read : Setup → Assignment → Attack
attack_read s a = let l = layout_of s in record {
  line = line_tests s.game White (number_in a l.white_line) (cell_in s.game a l.white_anchor);
  time = number_in a l.white_time;
}

abbrev pub refuting_read : Setup → Assignment → ℕ
refuting_read s a = number_in a (layout_of s).refuting

abbrev pub place_read : Setup → Assignment → Cell
place_read s a = cell_in s.game a (layout_of s).place

-- ---- a test that says what the conditions say

-- from variable v on, the assignment gives the plies the codes of these moves, which are legal
abbrev pub AreCoded : Game → ℕ → Assignment → Side → Board → ℕ → List Move → Type 0
AreCoded g depth a side b v [] = Unit {0}
AreCoded g depth a side b v (m ∷ ms) =
    let p = ply_at (sizes_of g depth) side v in
    (legal g b side m ≡ true) × (coded_move g side a p.code ≡ m)
    × AreCoded g depth a (opponent side) (after g b side m) (end p.code) ms

-- The test tells the conditions over marks at the place. As long as the codes name legal moves, these are the boards' marks.
pub record MeetsConditions (s : Setup) (out : Assignment → Bool) : Type 0 where
  pub marks : Assignment → ℕ → Mark
  pub are_shown : (a : Assignment) (ms : List Move) → length ms ≤ s.depth → AreCoded s.game s.depth a s.first s.board 1 ms
      → marks a (length ms) ≡ shown s.game (position s ms) (place_read s a)
  pub tells : (a : Assignment) → out a ≡ conditions s.depth (ply_read s a) (marks a) (claim_read s a) (attack_read s a) (refuting_read s a) (place_read s a)

-- the clauses of a circuit, under the inputs' prefix and its own variables
abbrev pub circuit_form : Setup → Circuit → Wire → Formula
circuit_form s c out = record {
  prefix = prefix_of (blocks (layout_of s)) ++ bounds Exists (suc c.inputs) (suc (length c.gates));
  clauses = circuit_clauses c out;
}
