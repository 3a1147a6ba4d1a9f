-- The board that the cells so far make, the others being open.
use Rattle.std.proofs.Common.{◌≡◌, ℕ, zero, suc, ◌≤◌, ◌<◌, ◌+◌, ◌-◌, ◌*◌, ◌/◌, ◌%◌, Bool, true, ◌&&◌, nat_le, List, [], ◌∷◌, ◌++◌, length, take, drop, get_or, set, inl, inr, if◌then◌else◌, refl, sym, subst, ap, ap₂, ◌∙◌, arith}
use Rattle.std.specs.Prelude.{◌==◌, replicate}
use Rattle.std.proofs.lemmas.Bool.{le-leb, cases_Bool}
use Rattle.std.proofs.lemmas.List.{take_all, drop_all, get_or-replicate, length-replicate, append-nil}
use Rattle.std.proofs.lemmas.Nat.{div-add-mod'}
use Rattle.std.proofs.Math.Nat.{mod-lt, div-lt_iff_lt-mul}
use Rattle.bddl_model.specs.declared.game.Mark.{Mark}
use Rattle.bddl_model.specs.declared.game.Mark.TheVariants as marks
use Rattle.bddl_model.specs.Board.{Board, SizedBoard, index, mark_at, with_mark, open_board}
use Rattle.bddl_model.specs.Conditions.{Cell}
use Rattle.bddl_model.specs.Encoding.{shown}
use Rattle.bddl_model.specs.Fitting.{on_side}
use Rattle.bddl_model.specs.Game.{Game}
use Rattle.symbol_cell.specs.Starts.{placed, is_at}
use Rattle.symbol_cell.proofs.Boards.{shown_set}

abbrev pub made_to : ℕ → Board → Board → Board
made_to i board bare = take i board ++ drop i bare

one_more : (i : ℕ) (board bare : Board) → i < length board → length bare ≡ length board → made_to (suc i) board bare ≡ set (made_to i board bare) i (get_or board i marks.Free)
one_more zero (m ∷ board) (n ∷ bare) lt same = refl
one_more (suc i) (m ∷ board) (n ∷ bare) lt same = ap (λ l. m ∷ l) (one_more i board bare (omega arith) (omega (arith, same)))
one_more i [] bare lt same = absurd (omega arith)
one_more i (m ∷ board) [] lt same = absurd (omega (arith, same))

same_mark : (i : ℕ) (board bare : Board) → i < length board → length bare ≡ length board → get_or board i marks.Free ≡ get_or bare i marks.Free → made_to (suc i) board bare ≡ made_to i board bare
same_mark zero (m ∷ board) (n ∷ bare) lt same mark = ap (λ k. k ∷ bare) mark
same_mark (suc i) (m ∷ board) (n ∷ bare) lt same mark = ap (λ l. m ∷ l) (same_mark i board bare (omega arith) (omega (arith, same)) mark)
same_mark i [] bare lt same mark = absurd (omega arith)
same_mark i (m ∷ board) [] lt same mark = absurd (omega (arith, same))

made_length : (i : ℕ) (board bare : Board) → i < length board → length bare ≡ length board → length (made_to i board bare) ≡ length board
made_length zero board bare lt same = same
made_length (suc i) (m ∷ board) (n ∷ bare) lt same = ap suc (made_length i board bare (omega arith) (omega (arith, same)))
made_length (suc i) [] bare lt same = absurd (omega arith)
made_length (suc i) (m ∷ board) [] lt same = absurd (omega (arith, same))

pub no_cells : (g : Game) (board : Board) (place : Cell) → shown g (made_to 0 board (open_board g.width g.height)) place ≡ marks.Free
no_cells g board place = elim (cases_Bool (on_side g.width place.x && on_side g.height place.y)) [
  | inl on ↦ ap (λ t. if t then get_or (open_board g.width g.height) (index g.width place.x place.y) marks.Free else marks.Free) on ∙ all_open (g.height * g.width) (index g.width place.x place.y)
  | inr off ↦ ap (λ t. if t then get_or (open_board g.width g.height) (index g.width place.x place.y) marks.Free else marks.Free) off
]
  where
    all_open : (n i : ℕ) → get_or (replicate n marks.Free) i marks.Free ≡ marks.Free
    all_open zero i = refl
    all_open (suc n) zero = refl
    all_open (suc n) (suc i) = all_open n i

pub all_cells : (g : Game) (board : Board) (i : ℕ) (place : Cell) → length board ≡ g.height * g.width → i ≡ g.height * g.width → shown g (made_to i board (open_board g.width g.height)) place ≡ shown g board place
all_cells g board i place size all = ap (λ b. shown g b place)
    (ap₂ (λ x y. x ++ y) (take_all i board (omega (arith, size, all))) (drop_all i (open_board g.width g.height) (omega (arith, all, length-replicate (g.height * g.width) marks.Free))) ∙ append-nil board)

-- ---- the cell of an index

pub mark_of_cell : (b : SizedBoard) (w i : ℕ) (mark : Mark) → w ≡ b.width → mark ≡ mark_at b.width b.marks (i % w + 1) (i / w + 1) → mark ≡ get_or b.marks i marks.Free
mark_of_cell b w i mark e is =
    is ∙ ap (λ v. get_or b.marks (index v (i % w + 1) (i / w + 1)) marks.Free) (sym e) ∙ ap (λ n. get_or b.marks n marks.Free) (ap₂ (λ y x. y * w + x) (omega arith) (omega arith) ∙ div-add-mod' i w)

pub cell_within : (b : SizedBoard) (h w i : ℕ) → h ≡ b.height → w ≡ b.width → length b.marks ≡ b.height * b.width → i < h * w → i < length b.marks
cell_within b h w i eh ew size lt = let all = ap₂ (λ x y. x * y) eh ew in omega (arith, all, size, lt)

counted : (i side : ℕ) → i < side → on_side side (i + 1) ≡ true
counted i side lt = ap₂ (λ x y. x && y) (le-leb 1 (i + 1) (omega arith)) (le-leb (i + 1) side (omega arith))

pub on_column : (i width w : ℕ) → w ≡ width → 1 ≤ width → on_side width (i % w + 1) ≡ true
on_column i width w e some = let below = mod-lt i {m = w} (omega (arith, e, some)) in counted (i % w) width (omega (arith, e, below))

pub on_row : (i width height w : ℕ) → w ≡ width → 1 ≤ width → i < height * width → on_side height (i / w + 1) ≡ true
on_row i width height w e some lt =
    let within : i < height * w = subst (λ v. i < height * v) (sym e) lt in
    let below : i / w < height = (div-lt_iff_lt-mul {k = w} {x = i} {y = height} (omega (arith, e, some))).1 within in
    counted (i / w) height below

module _ (g : Game) (board : Board) (i : ℕ) (mark : Mark) (place : Cell) (size : length board ≡ g.height * g.width) (lt : i < g.height * g.width) (some : 1 ≤ g.width) (is : mark ≡ get_or board i marks.Free) where
  abbrev bare : Board
  bare = open_board g.width g.height

  long : length bare ≡ length board
  long = length-replicate (g.height * g.width) marks.Free ∙ sym size

  -- a mark is written, an open one over an open cell
  pub cell_turn : (x y : ℕ) → x ≡ i % g.width + 1 → y ≡ i / g.width + 1 → on_side g.width x ≡ true → on_side g.height y ≡ true
      → placed mark x y place (shown g (made_to i board bare) place) ≡ shown g (made_to (i + 1) board bare) place
  cell_turn x y ex ey column row = of mark is
    where
      next : i + 1 ≡ suc i
      next = omega arith

      here : index g.width x y ≡ i
      here = let whole = div-add-mod' i g.width in let less : y - 1 ≡ i / g.width = omega (arith, ey) in ap₂ (λ b a. b * g.width + a) less (omega (arith, ex)) ∙ whole

      rewritten : (m : Mark) → m ≡ get_or board i marks.Free → (if is_at x y place then m else shown g (made_to i board bare) place) ≡ shown g (made_to (i + 1) board bare) place
      rewritten m e =
          sym (shown_set g (made_to i board bare) x y m place (made_length i board bare (omega (arith, size)) long ∙ size) column row)
          ∙ ap (λ b. shown g b place) (ap₂ (λ j k. set (made_to i board bare) j k) here e ∙ sym (one_more i board bare (omega (arith, size)) long) ∙ ap (λ n. made_to n board bare) (sym next))

      of : (m : Mark) → m ≡ get_or board i marks.Free → placed m x y place (shown g (made_to i board bare) place) ≡ shown g (made_to (i + 1) board bare) place
      of marks.Free e = ap (λ b. shown g b place) (sym (same_mark i board bare (omega (arith, size)) long (sym e ∙ sym (get_or-replicate (g.height * g.width) i marks.Free marks.Free lt))) ∙ ap (λ n. made_to n board bare) (sym next))
      of marks.Black e = rewritten marks.Black e
      of marks.White e = rewritten marks.White e
