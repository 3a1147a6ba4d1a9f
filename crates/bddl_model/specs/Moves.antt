-- Which moves are legal, and the board after them.
use Rattle.std.specs.Prelude.{ℕ, Bool, false, ◌&&◌, List, [], ◌∷◌, length, map, filter, flat_map, Option, None, Some, slice_get}
use Rattle.std.specs.List.{list_all, range_with_len}
use Rattle.bddl_model.specs.declared.game.Side.{Side}
use Rattle.bddl_model.specs.declared.game.Atom.{Atom}
use Rattle.bddl_model.specs.declared.game.Move.{Move}
use Rattle.bddl_model.specs.Game.{Game, Action, action_atoms, actions}
use Rattle.bddl_model.specs.Board.{Board, with_mark}
use Rattle.bddl_model.specs.Fitting.{led, fits, test_holds}

-- the anchor fits all atoms of the action, and each test of its preconditions holds
abbrev pub may_act : Game → Board → Action → ℕ → ℕ → Bool
may_act g board a x y = fits g.width g.height (action_atoms a) x y && list_all (test_holds g.width board x y) a.before

abbrev pub legal_with : Game → Board → Option Action → ℕ → ℕ → Bool
legal_with g board None x y = false
legal_with g board (Some a) x y = may_act g board a x y

-- the side has such an action, and may act so at the anchor
abbrev pub legal : Game → Board → Side → Move → Bool
legal g board side m = legal_with g board (slice_get (actions g side) m.action) m.x m.y

-- the effects, written one after the other
abbrev pub written : Game → ℕ → ℕ → List Atom → Board → Board
written g x y [] board = board
written g x y (atom ∷ atoms) board = written g x y atoms (with_mark g.width board (led atom.x x) (led atom.y y) atom.mark)

abbrev pub effects_of : Option Action → List Atom
effects_of None = []
effects_of (Some a) = a.effects

abbrev pub after : Game → Board → Side → Move → Board
after g board side m = written g m.x m.y (effects_of (slice_get (actions g side) m.action)) board

-- each action at each cell, in order of action, y, x
abbrev pub all_moves : Game → Side → List Move
all_moves g side = flat_map (λ a. flat_map (λ y. map (λ x. record { action = a; x = x; y = y }) (range_with_len 1 g.width)) (range_with_len 1 g.height)) (range_with_len 0 (length (actions g side)))

-- the legal ones
abbrev pub moves : Game → Board → Side → List Move
moves g board side = filter (legal g board side) (all_moves g side)
