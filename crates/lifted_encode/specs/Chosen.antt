-- The actions and the goal lines of a game as items of one kind, and what is asked of the tests of one that inputs choose.
use Rattle.std.specs.Prelude.{ℕ, ◌+◌, Bool, false, ◌&&◌, List, [], map, length, slice_index_or, Option, None, Some}
use Rattle.bddl_model.specs.declared.game.Atom.{Atom}
use Rattle.bddl_model.specs.declared.game.Test.{Test}
use Rattle.bddl_model.specs.Fitting.{fits}
use Rattle.bddl_model.specs.Game.{Game, Action, action_atoms, line_atoms, actions, lines}
use Rattle.lifted_encode.specs.declared.items.Items.{Items}
use Rattle.lifted_encode.specs.declared.items.Items.TheVariants.{Actions, Lines}
use Rattle.lifted_encode.specs.Asking.{Question, Here, meet_from}

-- its tests, and the atoms whose cells have to be on the board
pub record Item : Type 0 where
  pub tests : List Test
  pub atoms : List Atom

abbrev pub of_action : Action → Item
of_action a = record { tests = a.before; atoms = action_atoms a }

abbrev pub of_line : List Test → Item
of_line l = record { tests = l; atoms = line_atoms l }

abbrev pub items_of : Game → Items → List Item
items_of g (Actions side) = map of_action (actions g side)
items_of g (Lines side) = map of_line (lines g side)

abbrev pub item_at : Game → Items → ℕ → Item
item_at g items n = slice_index_or (items_of g items) n (record { tests = []; atoms = [] })

-- the item is there, the anchor fits it, and its tests meet what is asked
abbrev pub item_meets : Game → Option Item → Question → Here → Bool
item_meets g None q here = false
item_meets g (Some i) q here = fits g.width g.height i.atoms here.anchor.x here.anchor.y && meet_from q 0 here i.tests

-- each test is a part, and so is the choice of the item
abbrev pub item_parts : Item → ℕ
item_parts i = length i.tests + 1
