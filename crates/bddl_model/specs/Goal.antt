-- When a side's goal stands.
use Rattle.std.specs.Prelude.{ℕ, Bool, ◌&&◌, List}
use Rattle.std.specs.List.{list_any, list_all, range_with_len}
use Rattle.bddl_model.specs.declared.game.Side.{Side}
use Rattle.bddl_model.specs.declared.game.Test.{Test}
use Rattle.bddl_model.specs.Game.{Game, line_atoms, lines}
use Rattle.bddl_model.specs.Board.{Board}
use Rattle.bddl_model.specs.Fitting.{fits, test_holds}

-- the anchor fits, and every test holds
abbrev pub holds_from : Game → Board → List Test → ℕ → ℕ → Bool
holds_from g board line x y = fits g.width g.height (line_atoms line) x y && list_all (test_holds g.width board x y) line

-- it does so from some anchor
abbrev pub line_holds : Game → Board → List Test → Bool
line_holds g board line = list_any (λ y. list_any (λ x. holds_from g board line x y) (range_with_len 1 g.width)) (range_with_len 1 g.height)

-- some line of the side holds
abbrev pub goal : Game → Board → Side → Bool
goal g board side = list_any (line_holds g board) (lines g side)
