-- The games have no fault.
use Rattle.std.proofs.Common.{ℕ, zero, suc, ◌≡◌, ◌+◌, ◌-◌, ◌≤◌, Bool, true, false, nat_lt, ◌==◌, pos, List, [], ◌∷◌, ◌++◌, Option, None, Some, refl, sym, ap, ◌∙◌, subst, arith, if◌then◌else◌}
use Rattle.std.specs.List.{list_any}
use Rattle.std.proofs.lemmas.Bool.{le-leb, le-ltb}
use Rattle.std.proofs.lemmas.List.{append_assoc, append-nil}
use Rattle.bddl_model.specs.declared.check.CheckFault.{CheckFault}
use Rattle.bddl_model.specs.declared.check.Axis.{Axis}
use Rattle.bddl_model.specs.declared.check.Axis.TheVariants.{Width, Height}
use Rattle.bddl_model.specs.declared.game.Mark.TheVariants as marks
use Rattle.bddl_model.specs.declared.game.Side.TheVariants as sides
use Rattle.bddl_model.specs.declared.texts.InitAtom.{InitAtom}
use Rattle.bddl_model.specs.Check.{actions_fault, cell_fault, cells_fault, depth_fault, each_cell, first_of, lines_fault, same_cell, setup_fault, size_fault}
use Rattle.bddl_model.specs.Fitting.{on_side}
use Rattle.bddl_model.specs.Trial.{fives, large, large_depth, large_height, large_width, occupies, occupying, small, small_depth, stone, stones, two, draw}
use Rattle.bddl_make.proofs.Texts.{column_within, depth_within, height_within, row_within, small_depth_within, width_within}

-- ---- on boards of 12 to 16

from_twelve : (P : ℕ → Type 0) (n r : ℕ) → n ≡ 12 + r → r ≤ 4 → P 12 → P 13 → P 14 → P 15 → P 16 → P n
from_twelve P n zero e few a b c d f = subst P (sym e) a
from_twelve P n (suc zero) e few a b c d f = subst P (sym e) b
from_twelve P n (suc (suc zero)) e few a b c d f = subst P (sym e) c
from_twelve P n (suc (suc (suc zero))) e few a b c d f = subst P (sym e) d
from_twelve P n (suc (suc (suc (suc zero)))) e few a b c d f = subst P (sym e) f
from_twelve P n (suc (suc (suc (suc (suc r))))) e few a b c d f = absurd (omega (arith, few))

each_size : (P : ℕ → Type 0) (n : ℕ) → (12 ≤ n) × (n ≤ 16) → P 12 → P 13 → P 14 → P 15 → P 16 → P n
each_size P n within = from_twelve P n (n - 12) (omega (arith, within.0)) (omega (arith, within.1))

abbrev Fit : ℕ → ℕ → Type 0
Fit w h =
    (actions_fault w h sides.Black (occupies marks.Black) ≡ None) × (actions_fault w h sides.White (occupies marks.White) ≡ None)
    × (lines_fault w h sides.Black (fives marks.Black) ≡ None) × (lines_fault w h sides.White (fives marks.White) ≡ None)

fit_in_width : (w h : ℕ) → (12 ≤ h) × (h ≤ 16) → Fit w 12 → Fit w 13 → Fit w 14 → Fit w 15 → Fit w 16 → Fit w h
fit_in_width w h within = each_size (λ h. Fit w h) h within

fits : (w h : ℕ) → (12 ≤ w) × (w ≤ 16) → (12 ≤ h) × (h ≤ 16) → Fit w h
fits w h wide high = each_size (λ w. Fit w h) w wide
    (fit_in_width 12 h high (refl, refl, refl, refl) (refl, refl, refl, refl) (refl, refl, refl, refl) (refl, refl, refl, refl) (refl, refl, refl, refl))
    (fit_in_width 13 h high (refl, refl, refl, refl) (refl, refl, refl, refl) (refl, refl, refl, refl) (refl, refl, refl, refl) (refl, refl, refl, refl))
    (fit_in_width 14 h high (refl, refl, refl, refl) (refl, refl, refl, refl) (refl, refl, refl, refl) (refl, refl, refl, refl) (refl, refl, refl, refl))
    (fit_in_width 15 h high (refl, refl, refl, refl) (refl, refl, refl, refl) (refl, refl, refl, refl) (refl, refl, refl, refl) (refl, refl, refl, refl))
    (fit_in_width 16 h high (refl, refl, refl, refl) (refl, refl, refl, refl) (refl, refl, refl, refl) (refl, refl, refl, refl) (refl, refl, refl, refl))

-- ---- one check after the other

no_first : (f : Option CheckFault) (fs : List (Option CheckFault)) → first_of (f ∷ fs) ≡ None → (f ≡ None) × (first_of fs ≡ None)
no_first None fs e = (refl, e)
no_first (Some f) fs e = absurd cc

each_cell_more : (w h : ℕ) (earlier xs : List InitAtom) (s : InitAtom) → first_of (each_cell w h earlier xs) ≡ None → cell_fault w h (earlier ++ xs) s ≡ None → first_of (each_cell w h earlier (xs ++ s ∷ [])) ≡ None
each_cell_more w h earlier [] s none last = rw (sym (ap (λ cells. cell_fault w h cells s) (append-nil earlier)) ∙ last) refl
each_cell_more w h earlier (x ∷ xs) s none last =
    let both = no_first (cell_fault w h earlier x) (each_cell w h (earlier ++ x ∷ []) xs) none in
    let there : cell_fault w h ((earlier ++ x ∷ []) ++ xs) s ≡ None = ap (λ cells. cell_fault w h cells s) (append_assoc earlier (x ∷ []) xs) ∙ last in
    rw both.0 (each_cell_more w h (earlier ++ x ∷ []) xs s both.1 there)

-- ---- stones

is_on_side : (side n : ℕ) → 1 ≤ n → n ≤ side → on_side side n ≡ true
is_on_side side n some few = rw (le-leb 1 n some, le-leb n side few) refl

-- a stone with a new cell has no fault
stone_is_fine : (number i : ℕ) (earlier : List InitAtom) → list_any (same_cell (stone number i)) earlier ≡ false → cell_fault (large_width number) (large_height number) earlier (stone number i) ≡ None
stone_is_fine number i earlier new =
    let column = column_within number i in
    let row = row_within number i in
    rw (is_on_side (large_width number) (stone number i).x column.0 column.1, is_on_side (large_height number) (stone number i).y row.0 row.1, new) refl

with_stone_is_fine : (number i : ℕ) (earlier : List InitAtom) (named : Bool) → list_any (same_cell (stone number i)) earlier ≡ named → cells_fault (large_width number) (large_height number) earlier ≡ None
    → cells_fault (large_width number) (large_height number) (if named then earlier else earlier ++ stone number i ∷ []) ≡ None
with_stone_is_fine number i earlier true e none = none
with_stone_is_fine number i earlier false e none = each_cell_more (large_width number) (large_height number) [] earlier (stone number i) none (stone_is_fine number i earlier e)

stones_are_fine : (number n : ℕ) → cells_fault (large_width number) (large_height number) (stones number n) ≡ None
unfolding stones
stones_are_fine number zero = refl
stones_are_fine number (suc n) = with_stone_is_fine number n (stones number n) (list_any (same_cell (stone number n)) (stones number n)) refl (stones_are_fine number n)

-- ---- both games

size_is_fine : (axis : Axis) (n : ℕ) → 1 ≤ n → n ≤ 64 → size_fault axis n ≡ None
size_is_fine axis n some few = rw (is_on_side 64 n some few) refl

not_over : (n : ℕ) → n ≤ 31 → nat_lt 31 n ≡ false
not_over n few = le-ltb 31 n few

depth_is_fine : (n : ℕ) → n ≤ 31 → depth_fault n ≡ None
depth_is_fine n few = rw (not_over n few) refl

pub large_is_fine : (number : ℕ) → setup_fault occupying (large number) ≡ None
unfolding setup_fault
large_is_fine number =
    let wide = width_within number in
    let high = height_within number in
    let deep = depth_within number in
    let fit = fits (large_width number) (large_height number) wide high in
    rw (size_is_fine Width (large_width number) (omega (arith, wide.0)) (omega (arith, wide.1)), size_is_fine Height (large_height number) (omega (arith, high.0)) (omega (arith, high.1)), depth_is_fine (large_depth number) (omega (arith, deep)), fit.0, fit.1, stones_are_fine number 20, fit.2, fit.3) refl

either_fits : (b : Bool) → lines_fault 2 2 sides.Black (two (pos 1) (pos 0) ∷ (if b then two (pos 0) (pos 1) ∷ [] else [])) ≡ None
either_fits true = refl
either_fits false = refl

pub small_is_fine : (number : ℕ) → setup_fault occupying (small number) ≡ None
unfolding setup_fault
small_is_fine number =
    let deep = small_depth_within number in
    rw (depth_is_fine (small_depth number) (omega (arith, deep)), either_fits (draw number 1 2 == 1)) refl
