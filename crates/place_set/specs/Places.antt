-- Places with their boards.
use Rattle.std.specs.Prelude.{ℕ, ◌≡◌, ◌*◌, List, length, slice_get, Some}
use Rattle.bddl_model.specs.declared.game.Side.{Side}
use Rattle.bddl_model.specs.Board.{SizedBoard}
use Rattle.bddl_model.specs.Certificate.{Place}

abbrev pub place_at : Side → SizedBoard → ℕ → Place
place_at side b left = record { side = side; board = b.marks; left = left }

-- the board of this place has as many cells as this one
abbrev pub HasSize : SizedBoard → List Place → ℕ → Type 0
HasSize b places n = (p : Place) → slice_get places n ≡ Some p → length p.board ≡ b.height * b.width
