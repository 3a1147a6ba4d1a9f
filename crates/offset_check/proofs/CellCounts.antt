-- How many cells there are on a board.
use Rattle.std.proofs.Common.{◌≡◌, ◌≢◌, ℕ, ◌+◌, ◌-◌, ◌*◌, ◌/◌, ◌%◌, ◌<◌, ◌≤◌, Bool, true, false, ◌&&◌, not, eqb, List, [], ◌∷◌, length, map, sym, ap, ◌∙◌, ⊎_elim, arith}
use Rattle.std.specs.List.{list_any, list_all, IsDistinct, AllByRecursion}
use Rattle.std.proofs.lemmas.Bool.{and_parts, or_parts, or_cases, eqb-true, not-true, false_from_ne_true, false≢true}
use Rattle.std.proofs.lemmas.Bool.Decides.{nat_tests}
use Rattle.std.proofs.lemmas.Nat.{div-mul-add, mod-mul-add}
use Rattle.std.proofs.lemmas.List.{length-map}
use Rattle.std.proofs.lemmas.Map.Steps.{length-le_from_distinct_below}
use Rattle.bddl_model.specs.declared.texts.InitAtom.{InitAtom}
use Rattle.bddl_model.specs.Board.{index}
use Rattle.bddl_model.specs.Check.{same_cell}
use Rattle.bddl_model.specs.Fitting.{on_side, cell_on_board}
use Rattle.bddl_model.proofs.Anchors.{on_side_low, on_side_high}
use Rattle.grid_game.proofs.Cells.{index_below}

-- no cell is named twice
abbrev pub cells_apart : List InitAtom → Bool
cells_apart [] = true
cells_apart (a ∷ more) = not (list_any (same_cell a) more) && cells_apart more

abbrev place : ℕ → InitAtom → ℕ
place width a = index width a.x a.y

-- a number that is written in two digits has these two alone
same_digits : (width a b c d : ℕ) → b < width → d < width → a * width + b ≡ c * width + d → (a ≡ c) × (b ≡ d)
same_digits width a b c d low high e =
    (sym (div-mul-add a width b low) ∙ ap (λ n. n / width) e ∙ div-mul-add c width d high, sym (mod-mul-add a width b low) ∙ ap (λ n. n % width) e ∙ mod-mul-add c width d high)

same_place : (width height : ℕ) (a b : InitAtom) → cell_on_board width height a ≡ true → cell_on_board width height b ≡ true → place width a ≡ place width b → (a.x ≡ b.x) × (a.y ≡ b.y)
same_place width height a b on_a on_b e =
    let at_a = and_parts _ _ on_a in
    let at_b = and_parts _ _ on_b in
    let a_x = on_side_low width a.x at_a.0 in
    let a_wide = on_side_high width a.x at_a.0 in
    let a_y = on_side_low height a.y at_a.1 in
    let b_x = on_side_low width b.x at_b.0 in
    let b_wide = on_side_high width b.x at_b.0 in
    let b_y = on_side_low height b.y at_b.1 in
    let digits = same_digits width (a.y - 1) (a.x - 1) (b.y - 1) (b.x - 1) (omega arith) (omega arith) e in
    let rows = digits.0 in
    let columns = digits.1 in
    (omega arith, omega arith)

pub places_apart : (width height : ℕ) (a b : InitAtom) → cell_on_board width height a ≡ true → cell_on_board width height b ≡ true → same_cell a b ≡ false → index width a.x a.y ≢ index width b.x b.y
places_apart width height a b on_a on_b apart = λ e. false≢true (sym apart ∙ same (same_place width height a b on_a on_b e))
  where
    same : (a.x ≡ b.x) × (a.y ≡ b.y) → same_cell a b ≡ true
    same e = grind (arith, nat_tests)

places_differ : (width height : ℕ) (a b : InitAtom) → cell_on_board width height a ≡ true → cell_on_board width height b ≡ true → same_cell a b ≡ false → eqb (place width a) (place width b) ≡ false
places_differ width height a b on_a on_b apart = false_from_ne_true (eqb (place width a) (place width b)) (λ e. places_apart width height a b on_a on_b apart (eqb-true (place width a) (place width b) e))

apart_from : (width height : ℕ) (a : InitAtom) (cells : List InitAtom) → cell_on_board width height a ≡ true → list_all (cell_on_board width height) cells ≡ true → list_any (same_cell a) cells ≡ false → AllByRecursion (λ n. eqb (place width a) n ≡ false) (map (place width) cells)
apart_from width height a [] on_a on others = tt
apart_from width height a (b ∷ cells) on_a on others =
    let on_parts = and_parts _ _ on in
    let apart = or_parts (same_cell a b) (list_any (same_cell a) cells) others in
    (places_differ width height a b on_a on_parts.0 apart.0, apart_from width height a cells on_a on_parts.1 apart.1)

distinct_places : (width height : ℕ) (cells : List InitAtom) → list_all (cell_on_board width height) cells ≡ true → cells_apart cells ≡ true → IsDistinct eqb (map (place width) cells)
unfolding IsDistinct
distinct_places width height [] on apart = tt
distinct_places width height (a ∷ cells) on apart =
    let on_parts = and_parts _ _ on in
    let apart_parts = and_parts _ _ apart in
    (apart_from width height a cells on_parts.0 on_parts.1 (not-true (list_any (same_cell a) cells) apart_parts.0), distinct_places width height cells on_parts.1 apart_parts.1)

places_below : (width height : ℕ) (cells : List InitAtom) (n : ℕ) → list_all (cell_on_board width height) cells ≡ true → list_any (eqb n) (map (place width) cells) ≡ true → n < height * width
places_below width height [] n on is = absurd (false≢true is)
places_below width height (a ∷ cells) n on is =
    let on_parts = and_parts _ _ on in
    ⊎_elim (λ first. rw (eqb-true n (place width a) first) (at_first (and_parts _ _ on_parts.0))) (λ later. places_below width height cells n on_parts.1 later) (or_cases (eqb n (place width a)) (list_any (eqb n) (map (place width) cells)) is)
  where
    at_first : (on_side width a.x ≡ true) × (on_side height a.y ≡ true) → place width a < height * width
    at_first on_a = index_below width height a.x a.y on_a.0 on_a.1

-- no more than the board has cells
pub few_cells : (width height : ℕ) (cells : List InitAtom) → list_all (cell_on_board width height) cells ≡ true → cells_apart cells ≡ true → length cells ≤ height * width
few_cells width height cells on apart =
    rw (sym (length-map cells (place width)))
    (length-le_from_distinct_below (map (place width) cells) (height * width) (distinct_places width height cells on apart) (λ n. places_below width height cells n on))
