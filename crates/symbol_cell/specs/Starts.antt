-- What the cells of the start board add, and the gates that they take.
use Rattle.std.specs.Prelude.{ℕ, ◌+◌, ◌*◌, Bool, ◌==◌, ◌&&◌, if◌then◌else◌}
use Rattle.bddl_model.specs.declared.game.Mark.{Mark}
use Rattle.bddl_model.specs.declared.game.Mark.TheVariants.{Free}
use Rattle.bddl_model.specs.Conditions.{Cell}

-- a cell counts once, if it is not open
abbrev pub filled : Mark → ℕ
filled Free = 0
filled _ = 1

-- for words of so many bits
abbrev pub cell_gates : ℕ → ℕ
cell_gates bits = 2 * (bits + 2)

abbrev pub is_at : ℕ → ℕ → Cell → Bool
is_at x y place = (x == place.x) && (y == place.y)

-- the mark at the place after a cell was given its mark, to which an open one is none
abbrev pub placed : Mark → ℕ → ℕ → Cell → Mark → Mark
placed Free x y place before = before
placed mark x y place before = if is_at x y place then mark else before
