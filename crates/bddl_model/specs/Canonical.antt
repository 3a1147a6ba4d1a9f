-- The canonical texts of domains and problems, and the trees that a text can spell.
use Rattle.std.specs.Prelude.{ℕ, zero, suc, Bool, true, ◌&&◌, List, [], ◌++◌, map, flat_map, nat_lt, codes, ℤ, pos, negsuc, if◌then◌else◌}
use Rattle.std.specs.List.{list_all}
use Rattle.std.specs.Fmt.{decimal}
use Rattle.bddl_model.specs.declared.game.Mark.{Mark}
use Rattle.bddl_model.specs.declared.game.Mark.TheVariants as marks
use Rattle.bddl_model.specs.declared.game.Side.{Side}
use Rattle.bddl_model.specs.declared.game.Side.TheVariants as sides
use Rattle.bddl_model.specs.declared.texts.TermText.{TermText}
use Rattle.bddl_model.specs.declared.texts.TermText.TheVariants.{Shift, Number, Least, Greatest}
use Rattle.bddl_model.specs.declared.texts.AtomText.{AtomText}
use Rattle.bddl_model.specs.declared.texts.TestText.{TestText}
use Rattle.bddl_model.specs.declared.texts.InitAtom.{InitAtom}
use Rattle.bddl_model.specs.declared.texts.ActionText.{ActionText}
use Rattle.bddl_model.specs.declared.texts.DomainText.{DomainText}
use Rattle.bddl_model.specs.declared.texts.ProblemText.{ProblemText}
use Rattle.bddl_model.specs.FormulaText.{joined}
use Rattle.bddl_model.specs.Meanings.{is_name}

-- ---- the texts

abbrev pub mark_text : Mark → List ℕ
mark_text marks.Free = codes "open"
mark_text marks.Black = codes "black"
mark_text marks.White = codes "white"

-- how far from the variable; nothing where it is not moved
abbrev pub shift_text : ℤ → List ℕ
shift_text (pos zero) = []
shift_text (pos (suc k)) = codes "+" ++ decimal (suc k)
shift_text (negsuc k) = codes "-" ++ decimal (suc k)

-- by the variable and the names of the two ends
abbrev pub term_text : List ℕ → List ℕ → List ℕ → TermText → List ℕ
term_text variable least greatest (Shift k) = variable ++ shift_text k
term_text variable least greatest (Number n) = decimal n
term_text variable least greatest Least = least
term_text variable least greatest Greatest = greatest

abbrev pub x_text : TermText → List ℕ
x_text t = term_text (codes "?x") (codes "xmin") (codes "xmax") t

abbrev pub y_text : TermText → List ℕ
y_text t = term_text (codes "?y") (codes "ymin") (codes "ymax") t

-- a mark and two coordinates
abbrev pub marked_text : Mark → List ℕ → List ℕ → List ℕ
marked_text mark x y = mark_text mark ++ (codes "(" ++ (x ++ (codes "," ++ (y ++ codes ")"))))

abbrev pub atom_text : AtomText → List ℕ
atom_text a = marked_text a.mark (x_text a.x) (y_text a.y)

abbrev pub test_text : TestText → List ℕ
test_text t = if t.negated then codes "NOT(" ++ (atom_text t.atom ++ codes ")") else atom_text t.atom

abbrev pub cell_text : InitAtom → List ℕ
cell_text a = marked_text a.mark (decimal a.x) (decimal a.y)

-- in parentheses, with one space between
abbrev pub listed : List (List ℕ) → List ℕ
listed texts = codes "(" ++ (joined texts ++ codes ")")

abbrev pub atoms_text : List AtomText → List ℕ
atoms_text atoms = listed (map atom_text atoms)

abbrev pub tests_text : List TestText → List ℕ
tests_text tests = listed (map test_text tests)

abbrev pub line : List ℕ → List ℕ
line text = text ++ codes "\n"

abbrev pub action_text : ActionText → List ℕ
action_text a =
    line (codes ":action " ++ a.name)
    ++ (line (codes ":parameters (?x, ?y)")
    ++ (line (codes ":precondition " ++ tests_text a.before)
    ++ line (codes ":effect " ++ atoms_text a.effects)))

abbrev pub domain_text : DomainText → List ℕ
domain_text d =
    line (codes "#blackactions")
    ++ (flat_map action_text d.black
    ++ (line (codes "#whiteactions")
    ++ flat_map action_text d.white))

abbrev pub goals_text : List (List TestText) → List ℕ
goals_text lines = flat_map (λ l. line (tests_text l)) lines

-- nothing where Black moves first
abbrev pub first_text : Side → List ℕ
first_text sides.Black = []
first_text sides.White = line (codes "#first white")

abbrev pub problem_text : ProblemText → List ℕ
problem_text p =
    line (codes "#boardsize " ++ (decimal p.width ++ (codes " " ++ decimal p.height)))
    ++ (line (codes "#init " ++ listed (map cell_text p.init))
    ++ (line (codes "#depth " ++ decimal p.depth)
    ++ (first_text p.first
    ++ (line (codes "#blackgoals")
    ++ (goals_text p.black
    ++ (line (codes "#whitegoals")
    ++ goals_text p.white))))))

-- ---- the trees that a text can spell: names that the lexer takes, numbers of at most nine digits

abbrev pub is_short : ℕ → Bool
is_short n = nat_lt n 1000000000

abbrev pub shift_is_short : ℤ → Bool
shift_is_short (pos k) = is_short k
shift_is_short (negsuc k) = is_short (suc k)

abbrev pub term_can_be_spelled : TermText → Bool
term_can_be_spelled (Shift k) = shift_is_short k
term_can_be_spelled (Number n) = is_short n
term_can_be_spelled Least = true
term_can_be_spelled Greatest = true

abbrev pub atom_can_be_spelled : AtomText → Bool
atom_can_be_spelled a = term_can_be_spelled a.x && term_can_be_spelled a.y

abbrev pub atoms_can_be_spelled : List AtomText → Bool
atoms_can_be_spelled atoms = list_all atom_can_be_spelled atoms

abbrev pub tests_can_be_spelled : List TestText → Bool
tests_can_be_spelled tests = list_all (λ t. atom_can_be_spelled t.atom) tests

abbrev pub cell_can_be_spelled : InitAtom → Bool
cell_can_be_spelled a = is_short a.x && is_short a.y

abbrev pub action_can_be_spelled : ActionText → Bool
action_can_be_spelled a = is_name a.name && (tests_can_be_spelled a.before && atoms_can_be_spelled a.effects)

abbrev pub domain_can_be_spelled : DomainText → Bool
domain_can_be_spelled d = list_all action_can_be_spelled d.black && list_all action_can_be_spelled d.white

abbrev pub problem_can_be_spelled : ProblemText → Bool
problem_can_be_spelled p =
    is_short p.width && (is_short p.height && (list_all cell_can_be_spelled p.init && (is_short p.depth
    && (list_all tests_can_be_spelled p.black && list_all tests_can_be_spelled p.white))))
