-- What a game keeps, as its actions and lines.
use Rattle.std.specs.Prelude.{ℕ, All, List, map}
use Rattle.bddl_model.specs.declared.game.Test.{Test}
use Rattle.bddl_model.specs.Game.{Game, Action, action_atoms, line_atoms}
use Rattle.bddl_model.specs.Rectangle.{IsRectOf}
use Rattle.grid_game.specs.declared.items.StoredAction.{StoredAction}
use Rattle.grid_game.specs.declared.items.Items.{Items}

abbrev pub action_of : StoredAction → Action
action_of a = record { name = a.name.items; before = a.before.items; effects = a.effects.items }

abbrev pub actions_of : Items → List Action
actions_of items = map action_of items.actions.items

abbrev pub lines_of : Items → List (List Test)
lines_of items = map (λ l. l.tests.items) items.lines.items

-- each rectangle is that of its item
pub record KeepsRects (width height : ℕ) (items : Items) : Type 0 where
  pub actions : All (λ a. IsRectOf width height (action_atoms (action_of a)) a.rect) items.actions.items
  pub lines : All (λ l. IsRectOf width height (line_atoms l.tests.items) l.rect) items.lines.items

abbrev pub game_of : ℕ → ℕ → Items → Items → Game
game_of width height black white = record {
  width = width;
  height = height;
  black_actions = actions_of black;
  white_actions = actions_of white;
  black_lines = lines_of black;
  white_lines = lines_of white;
}
