-- The game and the start position that two trees state, where their numbers lie on the board.
use Rattle.std.specs.Prelude.{ℕ, List, [], ◌∷◌, map}
use Rattle.bddl_model.specs.declared.game.Side.{Side}
use Rattle.bddl_model.specs.declared.game.Term.{Term}
use Rattle.bddl_model.specs.declared.game.Term.TheVariants.{Rel, Abs}
use Rattle.bddl_model.specs.declared.game.Atom.{Atom}
use Rattle.bddl_model.specs.declared.game.Test.{Test}
use Rattle.bddl_model.specs.declared.texts.TermText.{TermText}
use Rattle.bddl_model.specs.declared.texts.TermText.TheVariants.{Shift, Number, Least, Greatest}
use Rattle.bddl_model.specs.declared.texts.AtomText.{AtomText}
use Rattle.bddl_model.specs.declared.texts.TestText.{TestText}
use Rattle.bddl_model.specs.declared.texts.InitAtom.{InitAtom}
use Rattle.bddl_model.specs.declared.texts.ActionText.{ActionText}
use Rattle.bddl_model.specs.declared.texts.DomainText.{DomainText}
use Rattle.bddl_model.specs.declared.texts.ProblemText.{ProblemText}
use Rattle.bddl_model.specs.Game.{Game, Action}
use Rattle.bddl_model.specs.Board.{Board, open_board, with_mark}

pub record Setup : Type 0 where
  pub game : Game
  pub board : Board
  pub first : Side
  pub depth : ℕ

-- a term on a side of this length
abbrev pub term_of : ℕ → TermText → Term
term_of side (Shift k) = Rel k
term_of side (Number n) = Abs n
term_of side Least = Abs 1
term_of side Greatest = Abs side

abbrev pub atom_of : ℕ → ℕ → AtomText → Atom
atom_of width height a = record { mark = a.mark; x = term_of width a.x; y = term_of height a.y }

abbrev pub test_of : ℕ → ℕ → TestText → Test
test_of width height t = record { atom = atom_of width height t.atom; negated = t.negated }

abbrev pub tests_of : ℕ → ℕ → List TestText → List Test
tests_of width height tests = map (test_of width height) tests

abbrev pub action_of : ℕ → ℕ → ActionText → Action
action_of width height a = record { name = a.name; before = tests_of width height a.before; effects = map (atom_of width height) a.effects }

abbrev pub game_of : DomainText → ProblemText → Game
game_of d p = record {
  width = p.width;
  height = p.height;
  black_actions = map (action_of p.width p.height) d.black;
  white_actions = map (action_of p.width p.height) d.white;
  black_lines = map (tests_of p.width p.height) p.black;
  white_lines = map (tests_of p.width p.height) p.white;
}

-- the board with these cells marked
abbrev pub marked : ℕ → List InitAtom → Board → Board
marked width [] board = board
marked width (a ∷ atoms) board = marked width atoms (with_mark width board a.x a.y a.mark)

abbrev pub setup_of : DomainText → ProblemText → Setup
setup_of d p = record {
  game = game_of d p;
  board = marked p.width p.init (open_board p.width p.height);
  first = p.first;
  depth = p.depth;
}
