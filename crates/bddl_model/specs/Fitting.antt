-- Which cell an atom names from an anchor, at which anchors all atoms stay on the board, and whether a test holds there.
use Rattle.std.specs.Prelude.{ℕ, suc, ◌+◌, ◌-◌, pos, negsuc, Bool, not, ◌&&◌, nat_le, if◌then◌else◌, List}
use Rattle.std.specs.List.{list_all}
use Rattle.bddl_model.specs.declared.game.Term.{Term}
use Rattle.bddl_model.specs.declared.game.Term.TheVariants.{Rel, Abs}
use Rattle.bddl_model.specs.declared.game.Mark.{Mark}
use Rattle.bddl_model.specs.declared.game.Atom.{Atom}
use Rattle.bddl_model.specs.declared.game.Test.{Test}
use Rattle.bddl_model.specs.declared.texts.InitAtom.{InitAtom}
use Rattle.bddl_model.specs.Board.{Board, mark_at, same_mark}

-- the number that a term leads to from the anchor's; 0 stands for all that lie before the board
abbrev pub led : Term → ℕ → ℕ
led (Rel (pos k)) n = n + k
led (Rel (negsuc k)) n = n - suc k
led (Abs m) n = m

abbrev pub on_side : ℕ → ℕ → Bool
on_side side n = nat_le 1 n && nat_le n side

abbrev pub cell_on_board : ℕ → ℕ → InitAtom → Bool
cell_on_board width height cell = on_side width cell.x && on_side height cell.y

-- the atom's cell is on the board
abbrev pub on_board : ℕ → ℕ → ℕ → ℕ → Atom → Bool
on_board width height x y atom = on_side width (led atom.x x) && on_side height (led atom.y y)

-- the anchor and every atom's cell are on the board
abbrev pub fits : ℕ → ℕ → List Atom → ℕ → ℕ → Bool
fits width height atoms x y = on_side width x && (on_side height y && list_all (on_board width height x y) atoms)

-- the mark is the one that the test asks for, or, where it is negated, another
abbrev pub passes : Mark → Test → Bool
passes mark t = if t.negated then not (same_mark mark t.atom.mark) else same_mark mark t.atom.mark

-- the mark of the test's cell, which is on the board, passes
abbrev pub test_holds : ℕ → Board → ℕ → ℕ → Test → Bool
test_holds width board x y t = passes (mark_at width board (led t.atom.x x) (led t.atom.y y)) t
