-- Trial games: two games that a number makes.
use Rattle.std.specs.Prelude.{ℕ, zero, suc, ◌+◌, ◌*◌, ◌%◌, ◌==◌, false, List, [], ◌∷◌, ◌++◌, ℤ, pos, negsuc, ◌*ℤ◌, codes, if◌then◌else◌}
use Rattle.std.specs.List.{list_any}
use Rattle.rand_core.specs.Pcg32Seed.{pcg32_seed}
use Rattle.rand_pcg.specs.Lcg.{Lcg, advance}
use Rattle.rand_pcg.specs.Pcg.{multiplier_64, output_xsh_rr, pcg32_of_seed}
use Rattle.bddl_model.specs.declared.game.Mark.{Mark}
use Rattle.bddl_model.specs.declared.game.Mark.TheVariants as marks
use Rattle.bddl_model.specs.declared.game.Side.TheVariants as sides
use Rattle.bddl_model.specs.declared.texts.TermText.TheVariants.{Shift}
use Rattle.bddl_model.specs.declared.texts.AtomText.{AtomText}
use Rattle.bddl_model.specs.declared.texts.TestText.{TestText}
use Rattle.bddl_model.specs.declared.texts.InitAtom.{InitAtom}
use Rattle.bddl_model.specs.declared.texts.ActionText.{ActionText}
use Rattle.bddl_model.specs.declared.texts.DomainText.{DomainText}
use Rattle.bddl_model.specs.declared.texts.ProblemText.{ProblemText}
use Rattle.bddl_model.specs.Check.{same_cell}

-- ---- words drawn from a number

-- the generator that a number sets, so many words later
abbrev pub drawn : ℕ → ℕ → Lcg
drawn number k = advance 64 multiplier_64 k (pcg32_of_seed (pcg32_seed 16 number))

-- word k, counted from 0, modulo n
abbrev pub draw : ℕ → ℕ → ℕ → ℕ
draw number k n = output_xsh_rr (drawn number k).state % n

-- ---- the domain of both: each side puts a stone on an open cell

-- an atom that is so many columns and rows from the anchor
abbrev pub atom_at : Mark → ℤ → ℤ → AtomText
atom_at mark x y = record { mark = mark; x = Shift x; y = Shift y }

abbrev pub test_at : Mark → ℤ → ℤ → TestText
test_at mark x y = record { atom = atom_at mark x y; negated = false }

abbrev pub occupy_name : List ℕ
occupy_name = codes "occupy"

abbrev pub occupy : Mark → ActionText
occupy mark = record { name = occupy_name; before = test_at marks.Free (pos 0) (pos 0) ∷ []; effects = atom_at mark (pos 0) (pos 0) ∷ [] }

abbrev pub occupies : Mark → List ActionText
occupies mark = occupy mark ∷ []

abbrev pub occupying : DomainText
occupying = record { black = occupies marks.Black; white = occupies marks.White }

-- ---- the large game: stones in a row of five

abbrev pub large_width : ℕ → ℕ
large_width number = 12 + draw number 0 5

abbrev pub large_height : ℕ → ℕ
large_height number = 12 + draw number 1 5

abbrev pub large_depth : ℕ → ℕ
large_depth number = 5 + 2 * draw number 2 3

abbrev pub drawn_mark : ℕ → Mark
drawn_mark n = if n == 0 then marks.Black else marks.White

-- the stone of three words from this one on, on a board of this size
abbrev pub stone_at : ℕ → ℕ → ℕ → ℕ → InitAtom
stone_at number k width height = record { mark = drawn_mark (draw number (k + 2) 2); x = 1 + draw number k width; y = 1 + draw number (k + 1) height }

-- stone i, counted from 0
abbrev pub stone : ℕ → ℕ → InitAtom
stone number i = stone_at number (3 + 3 * i) (large_width number) (large_height number)

-- a stone stands unless an earlier one has its cell
abbrev pub with_stone : List InitAtom → InitAtom → List InitAtom
with_stone earlier s = if list_any (same_cell s) earlier then earlier else earlier ++ s ∷ []

-- of the first so many
unfoldable pub stones : ℕ → ℕ → List InitAtom
stones number zero = []
stones number (suc n) = with_stone (stones number n) (stone number n)

-- five cells from the anchor on, each so many columns and rows behind the one before
abbrev pub five : Mark → ℤ → ℤ → List TestText
five mark x y =
    test_at mark (pos 0) (pos 0)
    ∷ test_at mark x y
    ∷ test_at mark (pos 2 *ℤ x) (pos 2 *ℤ y)
    ∷ test_at mark (pos 3 *ℤ x) (pos 3 *ℤ y)
    ∷ test_at mark (pos 4 *ℤ x) (pos 4 *ℤ y)
    ∷ []

-- in a row, in a column, and on both diagonals
abbrev pub fives : Mark → List (List TestText)
fives mark = five mark (pos 1) (pos 0) ∷ five mark (pos 0) (pos 1) ∷ five mark (pos 1) (pos 1) ∷ five mark (pos 1) (negsuc 0) ∷ []

abbrev pub large : ℕ → ProblemText
large number = record {
  width = large_width number;
  height = large_height number;
  init = stones number 20;
  depth = large_depth number;
  first = sides.Black;
  black = fives marks.Black;
  white = fives marks.White;
}

-- ---- the small game: two neighbours

-- two cells of Black, the second one so many columns and rows from the first
abbrev pub two : ℤ → ℤ → List TestText
two x y = test_at marks.Black (pos 0) (pos 0) ∷ test_at marks.Black x y ∷ []

abbrev pub small_depth : ℕ → ℕ
small_depth number = 1 + draw number 0 3

abbrev pub small : ℕ → ProblemText
small number = record {
  width = 2;
  height = 2;
  init = [];
  depth = small_depth number;
  first = sides.Black;
  black = two (pos 1) (pos 0) ∷ (if draw number 1 2 == 1 then two (pos 0) (pos 1) ∷ [] else []);
  white = [];
}
