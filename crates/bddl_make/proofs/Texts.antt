-- Trial games can be spelled, and their texts are short.
use Rattle.std.proofs.Common.{ℕ, zero, suc, ◌≡◌, ◌+◌, ◌*◌, ◌==◌, ◌<◌, ◌≤◌, ◌&&◌, pos, Bool, true, false, nat_lt, List, [], ◌∷◌, ◌++◌, length, map, codes, refl, ◌∙◌, arith, if◌then◌else◌}
use Rattle.std.specs.Fmt.{decimal, digits}
use Rattle.std.specs.List.{list_all, list_any}
use Rattle.std.proofs.Math.Nat.{mod-lt}
use Rattle.std.proofs.lemmas.Bool.{lt-ltb, ltb-true}
use Rattle.std.proofs.lemmas.Fmt.{length-decimal-le}
use Rattle.std.proofs.lemmas.List.{length-append}
use Rattle.std.proofs.lemmas.List.Folds.{list_all-append}
use Rattle.rand_pcg.specs.Pcg.{output_xsh_rr}
use Rattle.bddl_model.specs.declared.game.Mark.{Mark}
use Rattle.bddl_model.specs.declared.game.Mark.TheVariants as marks
use Rattle.bddl_model.specs.declared.game.Side.TheVariants as sides
use Rattle.bddl_model.specs.declared.texts.InitAtom.{InitAtom}
use Rattle.bddl_model.specs.declared.texts.ProblemText.{ProblemText}
use Rattle.bddl_model.specs.declared.texts.TestText.{TestText}
use Rattle.bddl_model.specs.Canonical.{cell_can_be_spelled, cell_text, domain_text, goals_text, is_short, line, listed, mark_text, problem_can_be_spelled, problem_text, tests_can_be_spelled}
use Rattle.bddl_model.specs.Check.{same_cell}
use Rattle.bddl_model.specs.FormulaText.{joined}
use Rattle.bddl_make.specs.declared.making.TrialKind.{TrialKind}
use Rattle.bddl_make.specs.declared.making.TrialKind.TheVariants.{Large, Small}
use Rattle.bddl_make.specs.Kinds.{trial_of}
use Rattle.bddl_model.specs.Trial.{draw, drawn, fives, large, large_depth, large_height, large_width, occupying, small, small_depth, stone, stones, two}

-- ---- numbers that are drawn

pub draw_below : (number k n : ℕ) → 0 < n → draw number k n < n
draw_below number k n some = mod-lt (output_xsh_rr (drawn number k).state) some

pub width_within : (number : ℕ) → (12 ≤ large_width number) × (large_width number ≤ 16)
width_within number = let few = draw_below number 0 5 (omega arith) in (omega (arith, few), omega (arith, few))

pub height_within : (number : ℕ) → (12 ≤ large_height number) × (large_height number ≤ 16)
height_within number = let few = draw_below number 1 5 (omega arith) in (omega (arith, few), omega (arith, few))

pub depth_within : (number : ℕ) → large_depth number ≤ 9
depth_within number = let few = draw_below number 2 3 (omega arith) in omega (arith, few)

pub small_depth_within : (number : ℕ) → small_depth number ≤ 3
small_depth_within number = let few = draw_below number 0 3 (omega arith) in omega (arith, few)

pub column_within : (number i : ℕ) → (1 ≤ (stone number i).x) × ((stone number i).x ≤ large_width number)
column_within number i =
    let wide = width_within number in
    let few = draw_below number (3 + 3 * i) (large_width number) (omega (arith, wide.0)) in
    (omega (arith, few), omega (arith, few))

pub row_within : (number i : ℕ) → (1 ≤ (stone number i).y) × ((stone number i).y ≤ large_height number)
row_within number i =
    let high = height_within number in
    let few = draw_below number (3 + 3 * i + 1) (large_height number) (omega (arith, high.0)) in
    (omega (arith, few), omega (arith, few))

-- ---- what holds of each stone

either_passes : (p : InitAtom → Bool) (b : Bool) (xs ys : List InitAtom) → list_all p xs ≡ true → list_all p ys ≡ true → list_all p (if b then xs else ys) ≡ true
either_passes p true xs ys h k = h
either_passes p false xs ys h k = k

pub stones_pass : (p : InitAtom → Bool) (number : ℕ) → ((i : ℕ) → p (stone number i) ≡ true) → (n : ℕ) → list_all p (stones number n) ≡ true
unfolding stones
stones_pass p number each zero = refl
stones_pass p number each (suc n) =
    let before = stones_pass p number each n in
    either_passes p (list_any (same_cell (stone number n)) (stones number n)) _ _ before (list_all-append p (stones number n) (stone number n ∷ []) ∙ rw (before, each n) refl)

either_is_short : (b : Bool) (xs ys : List InitAtom) (n : ℕ) → length xs ≤ n → length ys ≤ n → length (if b then xs else ys) ≤ n
either_is_short true xs ys n h k = h
either_is_short false xs ys n h k = k

few_stones : (number n : ℕ) → length (stones number n) ≤ n
unfolding stones
few_stones number zero = omega arith
few_stones number (suc n) =
    let before = few_stones number n in
    let one = length-append (stones number n) (stone number n ∷ []) in
    either_is_short (list_any (same_cell (stone number n)) (stones number n)) _ _ (suc n) (omega (arith, before)) (omega (arith, before, one))

-- ---- spelling

short_number : (n : ℕ) → n < 1000 → is_short n ≡ true
short_number n few = lt-ltb n 1000000000 (omega (arith, few))

stone_can_be_spelled : (number i : ℕ) → cell_can_be_spelled (stone number i) ≡ true
stone_can_be_spelled number i =
    let wide = width_within number in
    let high = height_within number in
    let column = column_within number i in
    let row = row_within number i in
    rw (short_number (stone number i).x (omega (arith, wide.1, column.1)), short_number (stone number i).y (omega (arith, high.1, row.1))) refl

pub large_can_be_spelled : (number : ℕ) → problem_can_be_spelled (large number) ≡ true
large_can_be_spelled number =
    let wide = width_within number in
    let high = height_within number in
    let deep = depth_within number in
    rw (short_number (large_width number) (omega (arith, wide.1)), short_number (large_height number) (omega (arith, high.1)), stones_pass cell_can_be_spelled number (stone_can_be_spelled number) 20, short_number (large_depth number) (omega (arith, deep))) refl

either_line : (b : Bool) → list_all tests_can_be_spelled (two (pos 1) (pos 0) ∷ (if b then two (pos 0) (pos 1) ∷ [] else [])) ≡ true
either_line true = refl
either_line false = refl

small_can_be_spelled : (number : ℕ) → problem_can_be_spelled (small number) ≡ true
small_can_be_spelled number =
    let deep = small_depth_within number in
    rw (short_number (small_depth number) (omega (arith, deep)), either_line (draw number 1 2 == 1)) refl

pub game_can_be_spelled : (kind : TrialKind) (number : ℕ) → problem_can_be_spelled (trial_of kind number) ≡ true
game_can_be_spelled Large number = large_can_be_spelled number
game_can_be_spelled Small number = small_can_be_spelled number

-- ---- lengths

three_digits : (n : ℕ) → n < 1000 → length (decimal n) ≤ 3
three_digits n few = length-decimal-le 3 n (omega arith) few (omega (arith, few))

both_fit : (xs ys : List ℕ) (a b : ℕ) → length xs ≤ a → length ys ≤ b → length (xs ++ ys) ≤ a + b
both_fit xs ys a b h k = rw (length-append xs ys) (omega (arith, h, k))

mark_fits : (m : Mark) → length (mark_text m) ≤ 5
mark_fits marks.Free = omega arith
mark_fits marks.Black = omega arith
mark_fits marks.White = omega arith

abbrev is_near : InitAtom → Bool
is_near a = nat_lt a.x 1000 && nat_lt a.y 1000

both_true : (a b : Bool) → (a && b) ≡ true → (a ≡ true) × (b ≡ true)
both_true true true e = (refl, refl)
both_true true false e = absurd cc
both_true false b e = absurd cc

cell_fits : (a : InitAtom) → is_near a ≡ true → length (cell_text a) ≤ 14
cell_fits a near =
    let both = both_true (nat_lt a.x 1000) (nat_lt a.y 1000) near in
    let column = three_digits a.x (ltb-true a.x 1000 both.0) in
    let row = three_digits a.y (ltb-true a.y 1000 both.1) in
    both_fit (mark_text a.mark) _ 5 9 (mark_fits a.mark)
    (both_fit (codes "(") _ 1 8 (omega arith)
    (both_fit (decimal a.x) _ 3 5 column
    (both_fit (codes ",") _ 1 4 (omega arith)
    (both_fit (decimal a.y) (codes ")") 3 1 row (omega arith)))))

cells_fit : (cells : List InitAtom) → list_all is_near cells ≡ true → length (joined (map cell_text cells)) ≤ 15 * length cells
cells_fit [] near = omega arith
cells_fit (a ∷ []) near =
    let both = both_true (is_near a) true near in
    let one = cell_fits a both.0 in
    omega (arith, one)
cells_fit (a ∷ b ∷ more) near =
    let both = both_true (is_near a) (list_all is_near (b ∷ more)) near in
    let one = cell_fits a both.0 in
    let rest = cells_fit (b ∷ more) both.1 in
    let all = both_fit (cell_text a) (32 ∷ joined (map cell_text (b ∷ more))) 14 (suc (15 * length (b ∷ more))) one (omega (arith, rest)) in
    omega (arith, all)

stone_is_near : (number i : ℕ) → is_near (stone number i) ≡ true
stone_is_near number i =
    let wide = width_within number in
    let high = height_within number in
    let column = column_within number i in
    let row = row_within number i in
    rw (lt-ltb (stone number i).x 1000 (omega (arith, wide.1, column.1)), lt-ltb (stone number i).y 1000 (omega (arith, high.1, row.1))) refl

size_fits : (w h : ℕ) → w < 1000 → h < 1000 → length (line (codes "#boardsize " ++ (decimal w ++ (codes " " ++ decimal h)))) ≤ 19
size_fits w h wide high =
    both_fit (codes "#boardsize " ++ (decimal w ++ (codes " " ++ decimal h))) (10 ∷ []) 18 1
    (both_fit (codes "#boardsize ") _ 11 7 (omega arith)
    (both_fit (decimal w) _ 3 4 (three_digits w wide)
    (both_fit (codes " ") (decimal h) 1 3 (omega arith) (three_digits h high)))) (omega arith)

depth_fits : (d : ℕ) → d < 1000 → length (line (codes "#depth " ++ decimal d)) ≤ 11
depth_fits d few = both_fit (codes "#depth " ++ decimal d) (10 ∷ []) 10 1 (both_fit (codes "#depth ") (decimal d) 7 3 (omega arith) (three_digits d few)) (omega arith)

init_fits : (cells : List InitAtom) (n : ℕ) → length (joined (map cell_text cells)) ≤ n → length (line (codes "#init " ++ listed (map cell_text cells))) ≤ 9 + n
init_fits cells n few =
    let inner = both_fit (joined (map cell_text cells)) (codes ")") n 1 few (omega arith) in
    let list = both_fit (codes "(") _ 1 (n + 1) (omega arith) inner in
    let front = both_fit (codes "#init ") (listed (map cell_text cells)) 6 (1 + (n + 1)) (omega arith) list in
    let all = both_fit (codes "#init " ++ listed (map cell_text cells)) (10 ∷ []) (6 + (1 + (n + 1))) 1 front (omega arith) in
    omega (arith, all)

-- behind the depth of a problem that Black begins
goals_fit : (black white : List (List TestText)) → length (goals_text black) ≤ 1000 → length (goals_text white) ≤ 1000 → length (line (codes "#blackgoals") ++ (goals_text black ++ (line (codes "#whitegoals") ++ goals_text white))) ≤ 2024
goals_fit black white few less =
    both_fit (line (codes "#blackgoals")) _ 12 2012 (omega arith)
    (both_fit (goals_text black) _ 1000 1012 few
    (both_fit (line (codes "#whitegoals")) (goals_text white) 12 1000 (omega arith) less))

problem_fits : (p : ProblemText) → p.width < 1000 → p.height < 1000 → length (joined (map cell_text p.init)) ≤ 300 → p.depth < 1000 → p.first ≡ sides.Black → length (goals_text p.black) ≤ 1000 → length (goals_text p.white) ≤ 1000 → length (problem_text p) ≤ 1048576
problem_fits p wide high cells deep first black white =
    let all : length (problem_text p) ≤ 2363 = rw first
    (both_fit (line (codes "#boardsize " ++ (decimal p.width ++ (codes " " ++ decimal p.height)))) _ 19 2344 (size_fits p.width p.height wide high)
    (both_fit (line (codes "#init " ++ listed (map cell_text p.init))) _ 309 2035 (init_fits p.init 300 cells)
    (both_fit (line (codes "#depth " ++ decimal p.depth)) _ 11 2024 (depth_fits p.depth deep) (goals_fit p.black p.white black white)))) in
    omega (arith, all)

black_fives : length (goals_text (fives marks.Black)) ≡ 316
unfolding digits
black_fives = refl

white_fives : length (goals_text (fives marks.White)) ≡ 316
unfolding digits
white_fives = refl

either_length : (b : Bool) → length (goals_text (two (pos 1) (pos 0) ∷ (if b then two (pos 0) (pos 1) ∷ [] else []))) ≡ (if b then 60 else 30)
unfolding digits
either_length true = refl
either_length false = refl

either_line_fits : (b : Bool) → length (goals_text (two (pos 1) (pos 0) ∷ (if b then two (pos 0) (pos 1) ∷ [] else []))) ≤ 1000
either_line_fits true = let e = either_length true in omega (arith, e)
either_line_fits false = let e = either_length false in omega (arith, e)

pub game_fits : (kind : TrialKind) (number : ℕ) → length (problem_text (trial_of kind number)) ≤ 1048576
game_fits Large number =
    let wide = width_within number in
    let high = height_within number in
    let deep = depth_within number in
    let few = few_stones number 20 in
    let cells = cells_fit (stones number 20) (stones_pass is_near number (stone_is_near number) 20) in
    problem_fits (large number) (omega (arith, wide.1)) (omega (arith, high.1)) (omega (arith, few, cells)) (omega (arith, deep)) refl (omega (arith, black_fives)) (omega (arith, white_fives))
game_fits Small number =
    let deep = small_depth_within number in
    problem_fits (small number) (omega arith) (omega arith) (omega arith) (omega (arith, deep)) refl (either_line_fits (draw number 1 2 == 1)) (omega arith)

pub domain_fits : length (domain_text occupying) ≤ 1048576
domain_fits = omega arith
