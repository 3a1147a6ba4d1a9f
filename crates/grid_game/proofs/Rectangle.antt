-- The rectangle that is computed from the terms holds the anchors that fit.
use Rattle.std.proofs.Common.{◌≡◌, ℕ, suc, ◌+◌, ◌-◌, ◌≤◌, Bool, true, false, ◌&&◌, nat_le, min, max, if◌then◌else◌, List, [], ◌∷◌, ◌++◌, pos, negsuc, Option, None, Some, inl, inr, refl, sym, ap, ap₂, subst, ◌∙◌, arith}
use Rattle.std.specs.Prelude.{IfSome}
use Rattle.std.specs.List.{list_all}
use Rattle.std.proofs.lemmas.Bool.{true≢false, cases_Bool, and_parts, leb-true, le-leb}
use Rattle.std.proofs.lemmas.Bool.Decides.{nat_tests}
use Rattle.std.proofs.lemmas.List.{map-append}
use Rattle.bddl_model.specs.declared.game.Term.{Term}
use Rattle.bddl_model.specs.declared.game.Term.TheVariants.{Rel, Abs}
use Rattle.bddl_model.specs.declared.game.Atom.{Atom}
use Rattle.bddl_model.specs.declared.game.Rect.{Rect}
use Rattle.bddl_model.specs.Fitting.{led, on_side, on_board, fits}
use Rattle.bddl_model.specs.Rectangle.{in_rect, IsRectOf, least_for, greatest_for, least_anchor, greatest_anchor, rect_between, columns_of, rows_of, rect_of}

-- ---- one coordinate

-- the number is between the two, the ends included
abbrev pub between : ℕ → ℕ → ℕ → Bool
between low high n = nat_le low n && nat_le n high

-- each term leads from the number to the side
abbrev pub lead_to_side : ℕ → ℕ → List Term → Bool
lead_to_side side n terms = list_all (λ t. on_side side (led t n)) terms

between_both : (a b c d n : ℕ) → between (max a b) (min c d) n ≡ (between a c n && between b d n)
between_both a b c d n = grind (arith, nat_tests)

up : (side n k : ℕ) → on_side side n ≡ true → between 1 (side - k) n ≡ on_side side (n + k)
up side n k h = grind (arith, nat_tests)

down : (side n k : ℕ) → on_side side n ≡ true → between (k + 2) side n ≡ on_side side (n - suc k)
down side n k h = grind (arith, nat_tests)

fixed : (side n : ℕ) (here : Bool) → on_side side n ≡ true → between 1 (if here then side else 0) n ≡ here
fixed side n true h = h
fixed side n false h = grind (arith, nat_tests)

term_leads : (side n : ℕ) (t : Term) → on_side side n ≡ true → between (least_for t) (greatest_for side t) n ≡ on_side side (led t n)
term_leads side n (Rel (pos k)) h = up side n k h
term_leads side n (Rel (negsuc k)) h = down side n k h
term_leads side n (Abs m) h = fixed side n (on_side side m) h

-- a part that holds wherever the whole may
joined : (here part whole rest : Bool) → (here ≡ true → part ≡ whole) → (part && (here && rest)) ≡ (here && (whole && rest))
joined true part whole rest h = ap (λ b. b && rest) (h refl)
joined false true whole rest h = refl
joined false false whole rest h = refl

and_true : (b : Bool) → b ≡ (b && true)
and_true true = refl
and_true false = refl

-- a number is between the least and the greatest anchor where it is on the side and each term leads from it to the side
pub anchors_are_exact : (side n : ℕ) (terms : List Term) → between (least_anchor terms) (greatest_anchor side terms) n ≡ (on_side side n && lead_to_side side n terms)
anchors_are_exact side n [] = and_true (on_side side n)
anchors_are_exact side n (t ∷ terms) =
    between_both (least_for t) (least_anchor terms) (greatest_for side t) (greatest_anchor side terms) n
    ∙ ap (λ b. between (least_for t) (greatest_for side t) n && b) (anchors_are_exact side n terms)
    ∙ joined (on_side side n) (between (least_for t) (greatest_for side t) n) (on_side side (led t n)) (lead_to_side side n terms) (term_leads side n t)

-- ---- both coordinates

crossed : (a b c d : Bool) → ((a && b) && (c && d)) ≡ ((a && c) && (b && d))
crossed true true c d = refl
crossed true false true d = refl
crossed true false false d = refl
crossed false b c d = refl

all_on_board : (width height x y : ℕ) (atoms : List Atom) → list_all (on_board width height x y) atoms ≡ (lead_to_side width x (columns_of atoms) && lead_to_side height y (rows_of atoms))
all_on_board width height x y [] = refl
all_on_board width height x y (a ∷ atoms) =
    ap (λ b. on_board width height x y a && b) (all_on_board width height x y atoms)
    ∙ crossed (on_side width (led a.x x)) (on_side height (led a.y y)) (lead_to_side width x (columns_of atoms)) (lead_to_side height y (rows_of atoms))

regrouped : (a b c d : Bool) → ((a && b) && (c && d)) ≡ (a && (c && (b && d)))
regrouped true true c d = refl
regrouped true false true d = refl
regrouped true false false d = refl
regrouped false b c d = refl

-- the anchor is between the ends of both coordinates where it fits
pub between_is_fits : (width height x y : ℕ) (atoms : List Atom) →
    (between (least_anchor (columns_of atoms)) (greatest_anchor width (columns_of atoms)) x && between (least_anchor (rows_of atoms)) (greatest_anchor height (rows_of atoms)) y)
    ≡ fits width height atoms x y
between_is_fits width height x y atoms =
    ap₂ ◌&&◌ (anchors_are_exact width x (columns_of atoms)) (anchors_are_exact height y (rows_of atoms))
    ∙ regrouped (on_side width x) (lead_to_side width x (columns_of atoms)) (on_side height y) (lead_to_side height y (rows_of atoms))
    ∙ ap (λ b. on_side width x && (on_side height y && b)) (sym (all_on_board width height x y atoms))

-- ---- the rectangle

abbrev rect_with : ℕ → ℕ → ℕ → ℕ → Rect
rect_with x_low x_high y_low y_high = record { x_low = x_low; x_high = x_high; y_low = y_low; y_high = y_high }

rect_between_some : (x_low x_high y_low y_high : ℕ) (r : Rect) → rect_between x_low x_high y_low y_high ≡ Some r → (x_low ≤ x_high) × (y_low ≤ y_high) × (rect_with x_low x_high y_low y_high ≡ r)
rect_between_some x_low x_high y_low y_high r e = elim (cases_Bool (nat_le x_low x_high && nat_le y_low y_high)) [
  | inl some ↦
      let ends = and_parts (nat_le x_low x_high) (nat_le y_low y_high) some in
      (leb-true x_low x_high ends.0, leb-true y_low y_high ends.1, (let f = rw some at e in cc))
  | inr none ↦ absurd (let f = rw none at e in cc)
]

rect_between_none : (x_low x_high y_low y_high x y : ℕ) → rect_between x_low x_high y_low y_high ≡ None → (between x_low x_high x && between y_low y_high y) ≡ false
rect_between_none x_low x_high y_low y_high x y e = elim (cases_Bool (nat_le x_low x_high && nat_le y_low y_high)) [
  | inl some ↦ absurd (let f = rw some at e in cc)
  | inr none ↦ grind (arith, nat_tests)
]

-- the rectangle that is computed is that of the atoms
pub rect_is_exact : (width height : ℕ) (atoms : List Atom) (r : Rect) → rect_of width height atoms ≡ Some r → IsRectOf width height atoms r
unfolding rect_of
rect_is_exact width height atoms r e =
    let columns = columns_of atoms in
    let rows = rows_of atoms in
    let is = rect_between_some (least_anchor columns) (greatest_anchor width columns) (least_anchor rows) (greatest_anchor height rows) r e in
    subst (IsRectOf width height atoms) is.2 (record { columns = is.0; rows = is.1; anchors = λ x y. between_is_fits width height x y atoms })

pub some_rect_is_exact : (width height : ℕ) (atoms : List Atom) (found : Option Rect) → found ≡ rect_of width height atoms → IfSome found (IsRectOf width height atoms)
some_rect_is_exact width height atoms None e = tt
some_rect_is_exact width height atoms (Some r) e = rect_is_exact width height atoms r (sym e)

-- where none is computed no anchor fits
pub no_rect_fits_nothing : (width height : ℕ) (atoms : List Atom) → rect_of width height atoms ≡ None → (x y : ℕ) → fits width height atoms x y ≡ false
unfolding rect_of
no_rect_fits_nothing width height atoms e x y =
    let columns = columns_of atoms in
    let rows = rows_of atoms in
    sym (between_is_fits width height x y atoms)
    ∙ rect_between_none (least_anchor columns) (greatest_anchor width columns) (least_anchor rows) (greatest_anchor height rows) x y e

-- atoms with a rectangle are given one
pub rect_from_fits : (width height : ℕ) (atoms : List Atom) (r : Rect) → IsRectOf width height atoms r → rect_of width height atoms ≡ None → ⊥
rect_from_fits width height atoms r is e =
    let corner : in_rect r r.x_low r.y_low ≡ true = rw (le-leb r.x_low r.x_low (omega arith), le-leb r.x_low r.x_high is.columns, le-leb r.y_low r.y_low (omega arith), le-leb r.y_low r.y_high is.rows) in
    true≢false (sym corner ∙ is.anchors r.x_low r.y_low ∙ no_rect_fits_nothing width height atoms e r.x_low r.y_low)

-- ---- a list behind another

least_anchor_above : (terms : List Term) → 1 ≤ least_anchor terms
least_anchor_above [] = omega arith
least_anchor_above (t ∷ terms) = omega (arith, least_anchor_above terms)

greatest_anchor_below : (side : ℕ) (terms : List Term) → greatest_anchor side terms ≤ side
greatest_anchor_below side [] = omega arith
greatest_anchor_below side (t ∷ terms) = omega (arith, greatest_anchor_below side terms)

-- from the ends of the board
least_anchor_append : (front back : List Term) → max (max 1 (least_anchor front)) (least_anchor back) ≡ least_anchor (front ++ back)
least_anchor_append [] back = omega (arith, least_anchor_above back)
least_anchor_append (t ∷ front) back = omega (arith, least_anchor_append front back)

greatest_anchor_append : (side : ℕ) (front back : List Term) → min (min side (greatest_anchor side front)) (greatest_anchor side back) ≡ greatest_anchor side (front ++ back)
greatest_anchor_append side [] back = omega (arith, greatest_anchor_below side back)
greatest_anchor_append side (t ∷ front) back = omega (arith, greatest_anchor_append side front back)

-- the rectangle of two lists, from the ends that one leaves to the other
pub rect_of_both : (width height x_low x_high y_low y_high : ℕ) (front back : List Atom)
    → x_low ≡ max (max 1 (least_anchor (columns_of front))) (least_anchor (columns_of back))
    → x_high ≡ min (min width (greatest_anchor width (columns_of front))) (greatest_anchor width (columns_of back))
    → y_low ≡ max (max 1 (least_anchor (rows_of front))) (least_anchor (rows_of back))
    → y_high ≡ min (min height (greatest_anchor height (rows_of front))) (greatest_anchor height (rows_of back))
    → rect_between x_low x_high y_low y_high ≡ rect_of width height (front ++ back)
unfolding rect_of
rect_of_both width height x_low x_high y_low y_high front back left right top bottom =
    rw (map-append (λ (a : Atom). a.x) front back, map-append (λ (a : Atom). a.y) front back)
    (rw (left ∙ least_anchor_append (columns_of front) (columns_of back), right ∙ greatest_anchor_append width (columns_of front) (columns_of back), top ∙ least_anchor_append (rows_of front) (rows_of back), bottom ∙ greatest_anchor_append height (rows_of front) (rows_of back)) refl)
