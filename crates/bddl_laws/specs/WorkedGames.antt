-- Games whose numbers are worked out.
use Rattle.std.specs.Prelude.{ℕ, ℤ, pos, negsuc, false, List, [], ◌∷◌, replicate, codes, map}
use Rattle.bddl_model.specs.declared.game.Mark.{Mark}
use Rattle.bddl_model.specs.declared.game.Mark.TheVariants as marks
use Rattle.bddl_model.specs.declared.game.Side.TheVariants.{Black, White}
use Rattle.bddl_model.specs.declared.game.Term.TheVariants.{Rel}
use Rattle.bddl_model.specs.declared.game.Atom.{Atom}
use Rattle.bddl_model.specs.declared.game.Test.{Test}
use Rattle.bddl_model.specs.declared.texts.InitAtom.{InitAtom}
use Rattle.bddl_model.specs.Game.{Action, Game}
use Rattle.bddl_model.specs.Board.{open_board}
use Rattle.bddl_model.specs.Setup.{Setup, marked}

-- a mark at a cell by its shift from the anchor
abbrev pub mark_near : Mark → ℤ → ℤ → Atom
mark_near m x y = record { mark = m; x = Rel x; y = Rel y }

-- the test that it stands there
abbrev pub near : Mark → ℤ → ℤ → Test
near m x y = record { atom = mark_near m x y; negated = false }

-- a side marks an open cell as its own
abbrev pub occupy : Mark → Action
occupy m = record { name = codes "occupy"; before = near marks.Free (pos 0) (pos 0) ∷ []; effects = mark_near m (pos 0) (pos 0) ∷ [] }

abbrev pub occupying : ℕ → ℕ → List (List Test) → List (List Test) → Game
occupying width height black white = record {
  width = width;
  height = height;
  black_actions = occupy marks.Black ∷ [];
  white_actions = occupy marks.White ∷ [];
  black_lines = black;
  white_lines = white;
}

-- ---- two by two

-- Black wants two neighbours, in a row or in a column
abbrev pub two_by_two : Setup
two_by_two = record {
  game = occupying 2 2 ((near marks.Black (pos 0) (pos 0) ∷ near marks.Black (pos 1) (pos 0) ∷ []) ∷ (near marks.Black (pos 0) (pos 0) ∷ near marks.Black (pos 0) (pos 1) ∷ []) ∷ []) [];
  board = open_board 2 2;
  first = Black;
  depth = 3;
}

-- ---- two cells

-- White begins, and Black takes the cell that is left
abbrev pub white_first : Setup
white_first = record {
  game = occupying 2 1 ((near marks.Black (pos 0) (pos 0) ∷ []) ∷ []) [];
  board = open_board 2 1;
  first = White;
  depth = 2;
}

-- ---- five in a row

-- five neighbours: in a row, in a column, and on both diagonals
abbrev pub fives : Mark → List (List Test)
fives m =
    (near m (pos 0) (pos 0) ∷ near m (pos 1) (pos 0) ∷ near m (pos 2) (pos 0) ∷ near m (pos 3) (pos 0) ∷ near m (pos 4) (pos 0) ∷ [])
    ∷ (near m (pos 0) (pos 0) ∷ near m (pos 0) (pos 1) ∷ near m (pos 0) (pos 2) ∷ near m (pos 0) (pos 3) ∷ near m (pos 0) (pos 4) ∷ [])
    ∷ (near m (pos 0) (pos 0) ∷ near m (pos 1) (pos 1) ∷ near m (pos 2) (pos 2) ∷ near m (pos 3) (pos 3) ∷ near m (pos 4) (pos 4) ∷ [])
    ∷ (near m (pos 0) (pos 0) ∷ near m (pos 1) (negsuc 0) ∷ near m (pos 2) (negsuc 1) ∷ near m (pos 3) (negsuc 2) ∷ near m (pos 4) (negsuc 3) ∷ [])
    ∷ []

abbrev pub stone : Mark → ℕ → ℕ → InitAtom
stone m x y = record { mark = m; x = x; y = y }

abbrev pub five_in_a_row : List InitAtom → ℕ → Setup
five_in_a_row stones depth = record {
  game = occupying 15 15 (fives marks.Black) (fives marks.White);
  board = marked 15 stones (open_board 15 15);
  first = Black;
  depth = depth;
}

-- six stones of each side
abbrev pub twelve_stones : List InitAtom
twelve_stones =
    stone marks.Black 7 7 ∷ stone marks.Black 8 8 ∷ stone marks.Black 9 7 ∷ stone marks.Black 6 8 ∷ stone marks.Black 8 6 ∷ stone marks.Black 7 9
    ∷ stone marks.White 8 7 ∷ stone marks.White 7 8 ∷ stone marks.White 9 8 ∷ stone marks.White 6 7 ∷ stone marks.White 7 6 ∷ stone marks.White 9 9
    ∷ []

-- those of the game in `examples/five-in-a-row`
abbrev pub six_stones : List InitAtom
six_stones = stone marks.Black 6 8 ∷ stone marks.Black 7 8 ∷ stone marks.Black 8 8 ∷ stone marks.White 1 1 ∷ stone marks.White 15 1 ∷ stone marks.White 15 15 ∷ []

-- ---- the greatest game

-- eight preconditions and four effects
abbrev pub greatest_action : Mark → ℕ → Action
greatest_action m letter = record { name = letter ∷ []; before = replicate 8 (near m (pos 0) (pos 0)); effects = replicate 4 (mark_near m (pos 0) (pos 0)) }

-- a side's lines: as many as there may be, each of as many tests as it may have
abbrev pub greatest_lines : Mark → List (List Test)
greatest_lines m = replicate 256 (replicate 16 (near m (pos 0) (pos 0)))

abbrev pub greatest_setup : Setup
greatest_setup = record {
  game = record {
    width = 64;
    height = 64;
    black_actions = map (greatest_action marks.Black) (codes "abcdefgh");
    white_actions = map (greatest_action marks.White) (codes "abcdefgh");
    black_lines = greatest_lines marks.Black;
    white_lines = greatest_lines marks.White;
  };
  board = replicate 4096 marks.Black;
  first = White;
  depth = 31;
}
