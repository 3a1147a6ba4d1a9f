-- The first fault of a game that two trees state, in the order in which the texts are checked, and the setup where there is none.
use Rattle.std.specs.Prelude.{ℕ, suc, ◌+◌, Bool, true, false, not, ◌&&◌, ◌==◌, nat_lt, bytes_eq, if◌then◌else◌, List, [], ◌∷◌, ◌++◌, length, map, flat_map, Option, None, Some, Result, Ok, Err}
use Rattle.std.specs.List.{list_any, range_with_len}
use Rattle.bddl_model.specs.declared.game.Side.{Side}
use Rattle.bddl_model.specs.declared.game.Side.TheVariants.{Black, White}
use Rattle.bddl_model.specs.declared.game.Atom.{Atom}
use Rattle.bddl_model.specs.declared.texts.TermText.{TermText}
use Rattle.bddl_model.specs.declared.texts.TermText.TheVariants.{Number}
use Rattle.bddl_model.specs.declared.texts.AtomText.{AtomText}
use Rattle.bddl_model.specs.declared.texts.TestText.{TestText}
use Rattle.bddl_model.specs.declared.texts.InitAtom.{InitAtom}
use Rattle.bddl_model.specs.declared.texts.ActionText.{ActionText}
use Rattle.bddl_model.specs.declared.texts.DomainText.{DomainText}
use Rattle.bddl_model.specs.declared.texts.ProblemText.{ProblemText}
use Rattle.bddl_model.specs.declared.check.Item.{Item}
use Rattle.bddl_model.specs.declared.check.Item.TheVariants as item
use Rattle.bddl_model.specs.declared.check.Axis.{Axis}
use Rattle.bddl_model.specs.declared.check.Axis.TheVariants.{Width, Height}
use Rattle.bddl_model.specs.declared.check.Part.{Part}
use Rattle.bddl_model.specs.declared.check.Part.TheVariants as part
use Rattle.bddl_model.specs.declared.check.CheckFault.{CheckFault}
use Rattle.bddl_model.specs.declared.check.CheckFault.TheVariants as fault
use Rattle.bddl_model.specs.Fitting.{on_side, fits}
use Rattle.bddl_model.specs.Game.{action_atoms, greatest_side, line_atoms}
use Rattle.bddl_model.specs.Setup.{Setup, action_of, tests_of, setup_of}

-- ---- checks one after the other

abbrev pub first_of : List (Option CheckFault) → Option CheckFault
first_of [] = None
first_of (None ∷ more) = first_of more
first_of (Some f ∷ more) = Some f

abbrev pub fault_if : Bool → CheckFault → Option CheckFault
fault_if true f = Some f
fault_if false f = None

-- ---- sizes

abbrev pub size_fault : Axis → ℕ → Option CheckFault
size_fault axis n = fault_if (not (on_side greatest_side n)) (fault.SizeOutOfRange axis n)

abbrev pub depth_fault : ℕ → Option CheckFault
depth_fault n = fault_if (nat_lt 31 n) (fault.DepthOutOfRange n)

-- ---- tests and atoms of an item

abbrev pub length_fault : Item → Part → ℕ → ℕ → Option CheckFault
length_fault i p most found = fault_if (nat_lt most found) (fault.TooManyAtoms i p found)

-- a fixed number that is none of the side
abbrev pub term_fault : Item → ℕ → TermText → Option CheckFault
term_fault i side (Number n) = fault_if (not (on_side side n)) (fault.NumberOffBoard i n)
term_fault i side _ = None

-- in the order of the atoms, x before y
abbrev pub atoms_fault : Item → ℕ → ℕ → List AtomText → Option CheckFault
atoms_fault i width height atoms = first_of (flat_map (λ a. term_fault i width a.x ∷ term_fault i height a.y ∷ []) atoms)

abbrev pub tests_fault : Item → ℕ → ℕ → List TestText → Option CheckFault
tests_fault i width height tests = atoms_fault i width height (map (λ t. t.atom) tests)

-- some anchor of the board fits
abbrev pub fits_somewhere : ℕ → ℕ → List Atom → Bool
fits_somewhere width height atoms = list_any (λ y. list_any (λ x. fits width height atoms x y) (range_with_len 1 width)) (range_with_len 1 height)

abbrev pub never_fault : Item → ℕ → ℕ → List Atom → Option CheckFault
never_fault i width height atoms = fault_if (not (fits_somewhere width height atoms)) (fault.NeverOnBoard i)

-- ---- actions

-- the number of the first action with this name, where the first has number n
abbrev pub named_at : ℕ → List ActionText → List ℕ → Option ℕ
named_at n [] name = None
named_at n (a ∷ more) name = if bytes_eq a.name name then Some n else named_at (suc n) more name

abbrev pub same_name : Item → Option ℕ → Option CheckFault
same_name i None = None
same_name i (Some earlier) = Some (fault.SameName i earlier)

-- an action behind those of its side that stand before it
abbrev pub action_fault : ℕ → ℕ → Side → List ActionText → ActionText → Option CheckFault
action_fault width height side earlier a =
    let i = item.Action side (length earlier + 1) in
    first_of (
    length_fault i part.Before 8 (length a.before)
    ∷ length_fault i part.Effects 4 (length a.effects)
    ∷ same_name i (named_at 1 earlier a.name)
    ∷ tests_fault i width height a.before
    ∷ atoms_fault i width height a.effects
    ∷ never_fault i width height (action_atoms (action_of width height a))
    ∷ [])

abbrev pub each_action : ℕ → ℕ → Side → List ActionText → List ActionText → List (Option CheckFault)
each_action width height side earlier [] = []
each_action width height side earlier (a ∷ more) = action_fault width height side earlier a ∷ each_action width height side (earlier ++ a ∷ []) more

abbrev pub actions_fault : ℕ → ℕ → Side → List ActionText → Option CheckFault
actions_fault width height side actions = first_of (fault_if (nat_lt 8 (length actions)) (fault.TooManyActions side (length actions)) ∷ each_action width height side [] actions)

-- ---- cells of the start board

abbrev pub same_cell : InitAtom → InitAtom → Bool
same_cell a b = a.x == b.x && a.y == b.y

-- a cell behind those that are named before it
abbrev pub cell_fault : ℕ → ℕ → List InitAtom → InitAtom → Option CheckFault
cell_fault width height earlier a =
    let i = item.Init (length earlier + 1) in
    first_of (
    fault_if (not (on_side width a.x)) (fault.NumberOffBoard i a.x)
    ∷ fault_if (not (on_side height a.y)) (fault.NumberOffBoard i a.y)
    ∷ fault_if (list_any (same_cell a) earlier) (fault.CellTwice i a.x a.y)
    ∷ [])

abbrev pub each_cell : ℕ → ℕ → List InitAtom → List InitAtom → List (Option CheckFault)
each_cell width height earlier [] = []
each_cell width height earlier (a ∷ more) = cell_fault width height earlier a ∷ each_cell width height (earlier ++ a ∷ []) more

abbrev pub cells_fault : ℕ → ℕ → List InitAtom → Option CheckFault
cells_fault width height cells = first_of (each_cell width height [] cells)

-- ---- goal lines

abbrev pub line_fault : ℕ → ℕ → Side → ℕ → List TestText → Option CheckFault
line_fault width height side number tests =
    let i = item.Line side number in
    first_of (length_fault i part.Line 16 (length tests) ∷ tests_fault i width height tests ∷ never_fault i width height (line_atoms (tests_of width height tests)) ∷ [])

-- the lines from this number on
abbrev pub each_line : ℕ → ℕ → Side → ℕ → List (List TestText) → List (Option CheckFault)
each_line width height side number [] = []
each_line width height side number (l ∷ more) = line_fault width height side number l ∷ each_line width height side (suc number) more

abbrev pub lines_fault : ℕ → ℕ → Side → List (List TestText) → Option CheckFault
lines_fault width height side lines = first_of (fault_if (nat_lt 256 (length lines)) (fault.TooManyLines side (length lines)) ∷ each_line width height side 1 lines)

-- ---- the whole

unfoldable pub setup_fault : DomainText → ProblemText → Option CheckFault
setup_fault d p = first_of (
    size_fault Width p.width
    ∷ size_fault Height p.height
    ∷ depth_fault p.depth
    ∷ actions_fault p.width p.height Black d.black
    ∷ actions_fault p.width p.height White d.white
    ∷ cells_fault p.width p.height p.init
    ∷ lines_fault p.width p.height Black p.black
    ∷ lines_fault p.width p.height White p.white
    ∷ [])

abbrev pub setup_unless : Option CheckFault → Setup → Result Setup CheckFault
setup_unless None s = Ok s
setup_unless (Some f) s = Err f

-- the setup that the trees state, or the first fault
abbrev pub checked_setup : DomainText → ProblemText → Result Setup CheckFault
checked_setup d p = setup_unless (setup_fault d p) (setup_of d p)
