-- Readers of domain and problem files, a definition for each line of the grammar.
use Rattle.std.specs.Prelude.{ℕ, true, false, List, Option, codes, pos}
use Rattle.bddl_model.specs.declared.tokens.TokenKind.TheVariants.{Left, Right, Comma, VarX, VarY, Hash, Colon}
use Rattle.bddl_model.specs.declared.game.Mark.{Mark}
use Rattle.bddl_model.specs.declared.game.Side.{Side}
use Rattle.bddl_model.specs.declared.game.Side.TheVariants.{Black}
use Rattle.bddl_model.specs.declared.texts.TermText.{TermText}
use Rattle.bddl_model.specs.declared.texts.TermText.TheVariants as terms
use Rattle.bddl_model.specs.declared.texts.AtomText.{AtomText}
use Rattle.bddl_model.specs.declared.texts.TestText.{TestText}
use Rattle.bddl_model.specs.declared.texts.InitAtom.{InitAtom}
use Rattle.bddl_model.specs.declared.texts.ActionText.{ActionText}
use Rattle.bddl_model.specs.declared.texts.DomainText.{DomainText}
use Rattle.bddl_model.specs.declared.texts.ProblemText.{ProblemText}
use Rattle.bddl_model.specs.Tokens.{Lexeme}
use Rattle.bddl_model.specs.Meanings.{is, a_name, a_number, a_mark, a_side, a_sign, signed, Start, whole, variable, x_start, y_start, TestStart, plain, negation, test_start}
use Rattle.bddl_reader.specs.declared.terms.Coordinate.{Coordinate}
use Rattle.bddl_reader.specs.declared.terms.Coordinate.TheVariants as coordinates
use Rattle.bddl_reader.specs.ListReaders.{Reader, done_at, one_at, ◌>>=◌, listed, optional_at, ended_at}

abbrev pub left_at : Reader Lexeme (Unit {0})
left_at = one_at (is Left (codes "("))

abbrev pub right_at : Reader Lexeme (Unit {0})
right_at = one_at (is Right (codes ")"))

abbrev pub comma_at : Reader Lexeme (Unit {0})
comma_at = one_at (is Comma (codes ","))

abbrev pub hash_at : List ℕ → Reader Lexeme (Unit {0})
hash_at text = one_at (is Hash text)

abbrev pub colon_at : List ℕ → Reader Lexeme (Unit {0})
colon_at text = one_at (is Colon text)

-- ---- terms

abbrev pub shift_at : Reader Lexeme TermText
shift_at = optional_at a_sign (λ s. one_at a_number >>= λ n. done_at (terms.Shift (signed s n))) (terms.Shift (pos 0))

abbrev pub behind_start_at : Start → Reader Lexeme TermText
behind_start_at (whole t) = done_at t
behind_start_at variable = shift_at

abbrev pub start_of : Coordinate → Lexeme → Option Start
start_of coordinates.X = x_start
start_of coordinates.Y = y_start

abbrev pub term_at : Coordinate → Reader Lexeme TermText
term_at coordinate = one_at (start_of coordinate) >>= behind_start_at

-- ---- marks at cells

abbrev pub behind_mark_at : Mark → Reader Lexeme AtomText
behind_mark_at mark = do
  _ ← left_at
  x ← term_at coordinates.X
  _ ← comma_at
  y ← term_at coordinates.Y
  _ ← right_at
  done_at (record { mark = mark; x = x; y = y })

abbrev pub atom_at : Reader Lexeme AtomText
atom_at = one_at a_mark >>= behind_mark_at

abbrev pub behind_test_start_at : TestStart → Reader Lexeme TestText
behind_test_start_at (plain mark) = do
  a ← behind_mark_at mark
  done_at (record { atom = a; negated = false })
behind_test_start_at negation = do
  _ ← left_at
  a ← atom_at
  _ ← right_at
  done_at (record { atom = a; negated = true })

abbrev pub test_at : Reader Lexeme TestText
test_at = one_at test_start >>= behind_test_start_at

abbrev pub cell_at : Reader Lexeme InitAtom
cell_at = do
  mark ← one_at a_mark
  _ ← left_at
  x ← one_at a_number
  _ ← comma_at
  y ← one_at a_number
  _ ← right_at
  done_at (record { mark = mark; x = x; y = y })

-- something between parentheses
abbrev pub enclosed_at : {A : Type 0} → Reader Lexeme A → Reader Lexeme A
enclosed_at inside = do
  _ ← left_at
  found ← inside
  _ ← right_at
  done_at found

abbrev pub atoms_at : Reader Lexeme (List AtomText)
atoms_at = enclosed_at (listed a_mark atom_at)

abbrev pub tests_at : Reader Lexeme (List TestText)
tests_at = enclosed_at (listed test_start test_at)

abbrev pub cells_at : Reader Lexeme (List InitAtom)
cells_at = enclosed_at (listed a_mark cell_at)

abbrev pub lines_at : Reader Lexeme (List (List TestText))
lines_at = listed (is Left (codes "(")) tests_at

-- ---- domains

abbrev pub parameters_at : Reader Lexeme (Unit {0})
parameters_at = do
  _ ← colon_at (codes ":parameters")
  _ ← left_at
  _ ← one_at (is VarX (codes "?x"))
  _ ← comma_at
  _ ← one_at (is VarY (codes "?y"))
  right_at

abbrev pub action_at : Reader Lexeme ActionText
action_at = do
  _ ← colon_at (codes ":action")
  name ← one_at a_name
  _ ← parameters_at
  _ ← colon_at (codes ":precondition")
  before ← tests_at
  _ ← colon_at (codes ":effect")
  effects ← atoms_at
  done_at (record { name = name; before = before; effects = effects })

abbrev pub actions_at : Reader Lexeme (List ActionText)
actions_at = listed (is Colon (codes ":action")) action_at

abbrev pub domain_at : Reader Lexeme DomainText
domain_at = do
  _ ← hash_at (codes "#blackactions")
  black ← actions_at
  _ ← hash_at (codes "#whiteactions")
  white ← actions_at
  _ ← ended_at
  done_at (record { black = black; white = white })

-- ---- problems

abbrev pub first_at : Reader Lexeme Side
first_at = optional_at (is Hash (codes "#first")) (λ _. one_at a_side) Black

abbrev pub problem_at : Reader Lexeme ProblemText
problem_at = do
  _ ← hash_at (codes "#boardsize")
  width ← one_at a_number
  height ← one_at a_number
  _ ← hash_at (codes "#init")
  init ← cells_at
  _ ← hash_at (codes "#depth")
  depth ← one_at a_number
  first ← first_at
  _ ← hash_at (codes "#blackgoals")
  black ← lines_at
  _ ← hash_at (codes "#whitegoals")
  white ← lines_at
  _ ← ended_at
  done_at (record { width = width; height = height; init = init; depth = depth; first = first; black = black; white = white })
