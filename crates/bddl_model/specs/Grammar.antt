-- The grammar of domain and problem files, a definition for each line of it.
use Rattle.std.specs.Prelude.{ℕ, true, false, List, codes, pos}
use Rattle.bddl_model.specs.declared.tokens.TokenKind.TheVariants.{Left, Right, Comma, VarX, VarY, Hash, Colon}
use Rattle.bddl_model.specs.declared.game.Mark.{Mark}
use Rattle.bddl_model.specs.declared.game.Side.TheVariants.{Black}
use Rattle.bddl_model.specs.declared.texts.TermText.{TermText}
use Rattle.bddl_model.specs.declared.texts.TermText.TheVariants as terms
use Rattle.bddl_model.specs.declared.texts.AtomText.{AtomText}
use Rattle.bddl_model.specs.declared.texts.TestText.{TestText}
use Rattle.bddl_model.specs.declared.texts.InitAtom.{InitAtom}
use Rattle.bddl_model.specs.declared.texts.ActionText.{ActionText}
use Rattle.bddl_model.specs.declared.texts.DomainText.{DomainText}
use Rattle.bddl_model.specs.declared.texts.ProblemText.{ProblemText}
use Rattle.bddl_model.specs.Tokens.{Lexeme}
use Rattle.bddl_model.specs.GrammarWords.{done, ended, one, ◌>>=◌, many, optional}
use Rattle.bddl_model.specs.Meanings.{is, a_name, a_number, a_mark, a_side, a_sign, signed, Start, whole, variable, x_start, y_start, TestStart, plain, negation, test_start}

-- this punctuation, this `#word`, this `:word`
abbrev pub left : List Lexeme → Unit {0} → Type 0
left = one (is Left (codes "("))

abbrev pub right : List Lexeme → Unit {0} → Type 0
right = one (is Right (codes ")"))

abbrev pub comma : List Lexeme → Unit {0} → Type 0
comma = one (is Comma (codes ","))

abbrev pub hash : List ℕ → List Lexeme → Unit {0} → Type 0
hash text = one (is Hash text)

abbrev pub colon : List ℕ → List Lexeme → Unit {0} → Type 0
colon text = one (is Colon text)

-- the variable, and a shift or none
abbrev pub shift : List Lexeme → TermText → Type 0
shift = optional a_sign (λ s. one a_number >>= λ n. done (terms.Shift (signed s n))) (terms.Shift (pos 0))

abbrev pub behind_start : Start → List Lexeme → TermText → Type 0
behind_start (whole t) = done t
behind_start variable = shift

abbrev pub xterm : List Lexeme → TermText → Type 0
xterm = one x_start >>= behind_start

abbrev pub yterm : List Lexeme → TermText → Type 0
yterm = one y_start >>= behind_start

-- the cell behind the mark
abbrev pub behind_mark : Mark → List Lexeme → AtomText → Type 0
behind_mark mark = do
  _ ← left
  x ← xterm
  _ ← comma
  y ← yterm
  _ ← right
  done (record { mark = mark; x = x; y = y })

abbrev pub atom : List Lexeme → AtomText → Type 0
atom = one a_mark >>= behind_mark

-- an atom, or `NOT` and one in parentheses
abbrev pub behind_test_start : TestStart → List Lexeme → TestText → Type 0
behind_test_start (plain mark) = do
  a ← behind_mark mark
  done (record { atom = a; negated = false })
behind_test_start negation = do
  _ ← left
  a ← atom
  _ ← right
  done (record { atom = a; negated = true })

abbrev pub test : List Lexeme → TestText → Type 0
test = one test_start >>= behind_test_start

abbrev pub cell : List Lexeme → InitAtom → Type 0
cell = do
  mark ← one a_mark
  _ ← left
  x ← one a_number
  _ ← comma
  y ← one a_number
  _ ← right
  done (record { mark = mark; x = x; y = y })

-- what stands in parentheses
abbrev pub enclosed : {A : Type 0} → (List Lexeme → A → Type 0) → List Lexeme → List A → Type 0
enclosed item = do
  _ ← left
  found ← many item
  _ ← right
  done found

abbrev pub atoms : List Lexeme → List AtomText → Type 0
atoms = enclosed atom

-- also a goal line
abbrev pub tests : List Lexeme → List TestText → Type 0
tests = enclosed test

abbrev pub parameters : List Lexeme → Unit {0} → Type 0
parameters = do
  _ ← colon (codes ":parameters")
  _ ← left
  _ ← one (is VarX (codes "?x"))
  _ ← comma
  _ ← one (is VarY (codes "?y"))
  right

abbrev pub action : List Lexeme → ActionText → Type 0
action = do
  _ ← colon (codes ":action")
  name ← one a_name
  _ ← parameters
  _ ← colon (codes ":precondition")
  before ← tests
  _ ← colon (codes ":effect")
  effects ← atoms
  done (record { name = name; before = before; effects = effects })

abbrev pub domain : List Lexeme → DomainText → Type 0
domain = do
  _ ← hash (codes "#blackactions")
  black ← many action
  _ ← hash (codes "#whiteactions")
  white ← many action
  _ ← ended
  done (record { black = black; white = white })

abbrev pub cells : List Lexeme → List InitAtom → Type 0
cells = enclosed cell

abbrev pub problem : List Lexeme → ProblemText → Type 0
problem = do
  _ ← hash (codes "#boardsize")
  width ← one a_number
  height ← one a_number
  _ ← hash (codes "#init")
  init ← cells
  _ ← hash (codes "#depth")
  depth ← one a_number
  first ← optional (is Hash (codes "#first")) (λ _. one a_side) Black
  _ ← hash (codes "#blackgoals")
  black ← many tests
  _ ← hash (codes "#whitegoals")
  white ← many tests
  _ ← ended
  done (record { width = width; height = height; init = init; depth = depth; first = first; black = black; white = white })
