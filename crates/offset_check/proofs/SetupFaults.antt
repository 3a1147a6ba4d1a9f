-- The first fault of a game, by groups of checks, and the setup where there is none.
use Rattle.std.proofs.Common.{◌≡◌, ◌⊎◌, inl, inr, ℕ, Option, None, Some, Result, Ok, Err, List, [], ◌∷◌, map, refl, sym, ap, ◌∙◌}
use Rattle.bddl_model.specs.declared.check.Axis.TheVariants.{Width, Height}
use Rattle.bddl_model.specs.declared.check.CheckFault.{CheckFault}
use Rattle.bddl_model.specs.declared.check.CheckFault.TheVariants as fault
use Rattle.bddl_model.specs.declared.game.Side.TheVariants.{Black, White}
use Rattle.bddl_model.specs.declared.texts.DomainText.{DomainText}
use Rattle.bddl_model.specs.declared.texts.ProblemText.{ProblemText}
use Rattle.bddl_model.specs.Check.{first_of, size_fault, depth_fault, actions_fault, cells_fault, lines_fault, setup_fault, setup_unless, checked_setup}
use Rattle.bddl_model.specs.Board.{SizedBoard, open_board}
use Rattle.bddl_model.specs.Game.{Game}
use Rattle.bddl_model.specs.Setup.{Setup, setup_of, action_of, tests_of, marked}

-- ---- one check after the other

-- a fault is the one that is wanted, unless memory ran out
abbrev pub IsTold : CheckFault → Option CheckFault → Type 0
IsTold f wanted = (f ≡ fault.NoMemory) ⊎ (wanted ≡ Some f)

told_here : (f : CheckFault) (wanted : Option CheckFault) (more : List (Option CheckFault)) → IsTold f wanted → IsTold f (first_of (wanted ∷ more))
told_here f wanted more (inl memory) = inl memory
told_here f wanted more (inr first) = inr (ap (λ o. first_of (o ∷ more)) first)

told_later : (f : CheckFault) (passed : Option CheckFault) (more : List (Option CheckFault)) → passed ≡ None → IsTold f (first_of more) → IsTold f (first_of (passed ∷ more))
told_later f passed more fine told = rw fine told

-- ---- groups of checks

abbrev pub sizes : ProblemText → Option CheckFault
sizes p = first_of (size_fault Width p.width ∷ size_fault Height p.height ∷ depth_fault p.depth ∷ [])

abbrev pub actions : DomainText → ProblemText → Option CheckFault
actions d p = first_of (actions_fault p.width p.height Black d.black ∷ actions_fault p.width p.height White d.white ∷ [])

abbrev pub cells : ProblemText → Option CheckFault
cells p = cells_fault p.width p.height p.init

abbrev pub goals_on : ℕ → ℕ → ProblemText → Option CheckFault
goals_on width height p = first_of (lines_fault width height Black p.black ∷ lines_fault width height White p.white ∷ [])

abbrev pub goals : ProblemText → Option CheckFault
goals p = goals_on p.width p.height p

joined : (a b c d e f g h : Option CheckFault) → first_of (a ∷ b ∷ c ∷ d ∷ e ∷ f ∷ g ∷ h ∷ []) ≡ first_of (first_of (a ∷ b ∷ c ∷ []) ∷ first_of (d ∷ e ∷ []) ∷ f ∷ first_of (g ∷ h ∷ []) ∷ [])
joined (Some x) b c d e f g h = refl
joined None (Some x) c d e f g h = refl
joined None None (Some x) d e f g h = refl
joined None None None (Some x) e f g h = refl
joined None None None None (Some x) f g h = refl
joined None None None None None (Some x) g h = refl
joined None None None None None None (Some x) h = refl
joined None None None None None None None (Some x) = refl
joined None None None None None None None None = refl

by_groups : (d : DomainText) (p : ProblemText) → setup_fault d p ≡ first_of (sizes p ∷ actions d p ∷ cells p ∷ goals p ∷ [])
unfolding setup_fault
by_groups d p = joined (size_fault Width p.width) (size_fault Height p.height) (depth_fault p.depth) (actions_fault p.width p.height Black d.black) (actions_fault p.width p.height White d.white) (cells_fault p.width p.height p.init) (lines_fault p.width p.height Black p.black) (lines_fault p.width p.height White p.white)

-- ---- the game and the board in turn

-- the game with both sides' actions, before its goal lines
abbrev pub acted : DomainText → ProblemText → Game
acted d p = record { width = p.width; height = p.height; black_actions = map (action_of p.width p.height) d.black; white_actions = map (action_of p.width p.height) d.white; black_lines = []; white_lines = [] }

abbrev pub aimed : Game → ProblemText → Game
aimed g p = record g { black_lines = map (tests_of g.width g.height) p.black; white_lines = map (tests_of g.width g.height) p.white }

abbrev pub started : ProblemText → SizedBoard
started p = record { width = p.width; height = p.height; marks = marked p.width p.init (open_board p.width p.height) }

-- ---- answers

told : (d : DomainText) (p : ProblemText) (r : Result Setup CheckFault) (f : CheckFault) → r ≡ Err f → IsTold f (first_of (sizes p ∷ actions d p ∷ cells p ∷ goals p ∷ [])) → (r ≡ checked_setup d p) ⊎ (r ≡ Err fault.NoMemory)
told d p r f is (inl memory) = inr (is ∙ ap Err memory)
told d p r f is (inr first) = inl (is ∙ sym (ap (λ o. setup_unless o (setup_of d p)) (by_groups d p ∙ first)))

pub told_sizes : (d : DomainText) (p : ProblemText) (r : Result Setup CheckFault) (f : CheckFault) → r ≡ Err f → IsTold f (sizes p) → (r ≡ checked_setup d p) ⊎ (r ≡ Err fault.NoMemory)
told_sizes d p r f is here = told d p r f is (told_here f (sizes p) (actions d p ∷ cells p ∷ goals p ∷ []) here)

pub told_actions : (d : DomainText) (p : ProblemText) (r : Result Setup CheckFault) (f : CheckFault) → r ≡ Err f → sizes p ≡ None → IsTold f (actions d p) → (r ≡ checked_setup d p) ⊎ (r ≡ Err fault.NoMemory)
told_actions d p r f is fine here = told d p r f is (told_later f (sizes p) _ fine (told_here f (actions d p) (cells p ∷ goals p ∷ []) here))

pub told_cells : (d : DomainText) (p : ProblemText) (r : Result Setup CheckFault) (f : CheckFault) → r ≡ Err f → sizes p ≡ None → actions d p ≡ None → IsTold f (cells p) → (r ≡ checked_setup d p) ⊎ (r ≡ Err fault.NoMemory)
told_cells d p r f is fine acts here = told d p r f is (told_later f (sizes p) _ fine (told_later f (actions d p) _ acts (told_here f (cells p) (goals p ∷ []) here)))

same_sides : (d : DomainText) (p : ProblemText) (first : Game) → first ≡ acted d p → goals p ≡ goals_on first.width first.height p
same_sides d p first acting = ap (λ g. goals_on g.width g.height p) (sym acting)

pub told_goals : (d : DomainText) (p : ProblemText) (first : Game) (r : Result Setup CheckFault) (f : CheckFault) → r ≡ Err f → first ≡ acted d p → sizes p ≡ None → actions d p ≡ None → cells p ≡ None → IsTold f (goals_on first.width first.height p) → (r ≡ checked_setup d p) ⊎ (r ≡ Err fault.NoMemory)
told_goals d p first r f is acting fine acts cells_fine here = told d p r f is (told_later f (sizes p) _ fine (told_later f (actions d p) _ acts (told_later f (cells p) _ cells_fine (told_here f (goals p) [] there))))
  where
    there : IsTold f (goals p)
    there = rw (same_sides d p first acting) here

set_up : (d : DomainText) (p : ProblemText) (first made : Game) (board : SizedBoard) → first ≡ acted d p → made ≡ aimed first p → board ≡ started p → record { game = made; board = board.marks; first = p.first; depth = p.depth } ≡ setup_of d p
set_up d p first made board acting aiming starting = rw (aiming, acting, starting) refl

pub no_fault : (d : DomainText) (p : ProblemText) (first made : Game) (board : SizedBoard) → first ≡ acted d p → made ≡ aimed first p → board ≡ started p → sizes p ≡ None → actions d p ≡ None → cells p ≡ None → goals_on first.width first.height p ≡ None → Ok (record { game = made; board = board.marks; first = p.first; depth = p.depth }) ≡ checked_setup d p
no_fault d p first made board acting aiming starting fine acts cells_fine aims = ap Ok (set_up d p first made board acting aiming starting) ∙ sym (ap (λ o. setup_unless o (setup_of d p)) all_fine)
  where
    all_fine : setup_fault d p ≡ None
    all_fine = by_groups d p ∙ rw (fine, acts, cells_fine, same_sides d p first acting, aims) refl
