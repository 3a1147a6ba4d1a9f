-- What a game keeps to: its sizes, and that each action and each line fits somewhere.
use Rattle.std.specs.Prelude.{ℕ, ◌≡◌, ◌*◌, ◌≤◌, All, List, length}
use Rattle.bddl_model.specs.declared.game.Atom.{Atom}
use Rattle.bddl_model.specs.declared.game.Test.{Test}
use Rattle.bddl_model.specs.declared.game.Rect.{Rect}
use Rattle.bddl_model.specs.Game.{Game, Action, action_atoms, greatest_side, line_atoms}
use Rattle.bddl_model.specs.Board.{SizedBoard}
use Rattle.bddl_model.specs.Rectangle.{IsRectOf}

abbrev pub IsSide : ℕ → Type 0
IsSide n = (1 ≤ n) × (n ≤ greatest_side)

-- some anchor fits
abbrev pub FitsSomewhere : ℕ → ℕ → List Atom → Type 0
FitsSomewhere width height atoms = (r : Rect) × IsRectOf width height atoms r

pub record IsAction (width height : ℕ) (a : Action) : Type 0 where
  pub name : (1 ≤ length a.name) × (length a.name ≤ 32)
  pub before : length a.before ≤ 8
  pub effects : length a.effects ≤ 4
  pub fits : FitsSomewhere width height (action_atoms a)

pub record IsLine (width height : ℕ) (line : List Test) : Type 0 where
  pub tests : length line ≤ 16
  pub fits : FitsSomewhere width height (line_atoms line)

-- the actions and the lines of one side
pub record AreItems (width height : ℕ) (actions : List Action) (lines : List (List Test)) : Type 0 where
  pub few_actions : length actions ≤ 8
  pub each_action : All (IsAction width height) actions
  pub few_lines : length lines ≤ 256
  pub each_line : All (IsLine width height) lines

pub record IsGame (g : Game) : Type 0 where
  pub width : IsSide g.width
  pub height : IsSide g.height
  pub black : AreItems g.width g.height g.black_actions g.black_lines
  pub white : AreItems g.width g.height g.white_actions g.white_lines

-- a board with a mark for each cell
pub record IsBoard (b : SizedBoard) : Type 0 where
  pub width : IsSide b.width
  pub height : IsSide b.height
  pub marks : length b.marks ≡ b.height * b.width

-- the board has the game's sides
abbrev pub IsBoardOf : Game → SizedBoard → Type 0
IsBoardOf g b = (b.width ≡ g.width) × (b.height ≡ g.height)
