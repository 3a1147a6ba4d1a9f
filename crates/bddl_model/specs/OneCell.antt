-- What moves do to the mark of one cell, the place, on the board or off it. So a board can be followed there without the others.
use Rattle.std.specs.Prelude.{ℕ, ◌+◌, Bool, ◌==◌, ◌&&◌, List, [], ◌∷◌, take, drop, if◌then◌else◌, slice_get}
use Rattle.bddl_model.specs.declared.game.Mark.{Mark}
use Rattle.bddl_model.specs.declared.game.Side.{Side}
use Rattle.bddl_model.specs.declared.game.Atom.{Atom}
use Rattle.bddl_model.specs.declared.game.Move.{Move}
use Rattle.bddl_model.specs.Words.{number_of_bits}
use Rattle.bddl_model.specs.Game.{Game, actions}
use Rattle.bddl_model.specs.Fitting.{led}
use Rattle.bddl_model.specs.Moves.{effects_of}
use Rattle.bddl_model.specs.Conditions.{Cell}

-- the atom's cell, from the anchor, is the place
abbrev pub touches : Atom → Cell → Cell → Bool
touches atom anchor place = (led atom.x anchor.x == place.x) && (led atom.y anchor.y == place.y)

-- the mark at the place after effects, written one after the other: that of the last one that touches it, or the one before
abbrev pub rewritten : List Atom → Cell → Cell → Mark → Mark
rewritten [] anchor place mark = mark
rewritten (e ∷ effects) anchor place mark = rewritten effects anchor place (if touches e anchor place then e.mark else mark)

-- the mark there after a move of the side, whether or not it is legal; a move of no action leaves it
abbrev pub stepped : Game → Side → Move → Cell → Mark → Mark
stepped g side m place mark = rewritten (effects_of (slice_get (actions g side) m.action)) (record { x = m.x; y = m.y }) place mark

-- the cell that bits spell, so many of which are those of its column
abbrev pub spelled_cell : ℕ → List Bool → Cell
spelled_cell n bits = record { x = number_of_bits (take n bits) + 1; y = number_of_bits (drop n bits) + 1 }
