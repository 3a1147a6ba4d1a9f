-- Texts that are shown, part by part.
use Rattle.std.proofs.Common.{◌≡◌, ℕ, suc, ◌+◌, ◌-◌, ◌*◌, ◌<◌, ◌≤◌, List, [], ◌∷◌, ◌++◌, drop, take, length, map, Option, Ok, slice_index_or, refl, sym, ap, ap₂, ◌∙◌, arith, append_assoc}
use Rattle.std.specs.Prelude.{codes}
use Rattle.std.specs.Fmt.{decimal}
use Rattle.std.proofs.lemmas.List.{drop_more, drop_all}
use Rattle.bddl_model.specs.declared.game.Move.{Move}
use Rattle.bddl_model.specs.declared.game.Side.{Side}
use Rattle.bddl_model.specs.declared.game.Side.TheVariants.{White}
use Rattle.bddl_model.specs.Board.{Board}
use Rattle.bddl_model.specs.Game.{Game, action_at}
use Rattle.bddl_model.specs.Play.{mark_byte, rows_text, board_text, move_text, numbered_text, moves_text, side_word, made_text}
use Rattle.io_edge.specs.Puts.{Adds}
use Rattle.io_edge.proofs.Added.{Added, added_last}
use Rattle.io_edge.proofs.Steps.{adds_nothing}
use Rattle.game_play.specs.Shown.{one_numbered, count_text}

-- the next item of a list
pub map_next : {A : Type 0} (f : A → ℕ) (xs : List A) (i : ℕ) (d x : A) (b : ℕ) → i < length xs → x ≡ slice_index_or xs i d → b ≡ f x → map f (drop i xs) ≡ (b ∷ []) ++ map f (drop (i + 1) xs)
map_next f xs i d x b within e g = ap (map f) (drop_more xs i d within) ∙ ap (λ c. c ∷ map f (drop (i + 1) xs)) (sym (g ∙ ap f e))

-- the next row
pub row_next : (width rows left : ℕ) (board : Board) → rows ≡ suc left → rows_text width rows board ≡ (map mark_byte (take width board) ++ 10 ∷ []) ++ rows_text width left (drop width board)
unfolding rows_text
row_next width rows left board e = ap (λ n. rows_text width n board) e ∙ sym (append_assoc (map mark_byte (take width board)) (10 ∷ []) (rows_text width left (drop width board)))

pub next_row : (width rows i : ℕ) (board row rest : Board) → i < rows → row ≡ take width board → rest ≡ drop width board → rows_text width (rows - i) board ≡ (map mark_byte row ++ 10 ∷ []) ++ rows_text width (rows - (i + 1)) rest
next_row width rows i board row rest lt e f =
    row_next width (rows - i) (rows - (i + 1)) board (omega (arith, lt))
    ∙ ap₂ (λ r s. (map mark_byte r ++ 10 ∷ []) ++ rows_text width (rows - (i + 1)) s) (sym e) (sym f)

pub board_is : (g : Game) (board marks : Board) (width height : ℕ) → width ≡ g.width → height ≡ g.height → marks ≡ board → board_text g board ≡ codes "board\n" ++ rows_text width height marks
unfolding board_text
board_is g board marks width height w h m = ap (λ t. codes "board\n" ++ t) (ap₂ (λ x y. rows_text x y board) (sym w) (sym h) ∙ ap (rows_text width height) (sym m))

pub move_is : (g : Game) (side : Side) (m : Move) → (action_at g side m.action).name ++ (32 ∷ (decimal m.x ++ (32 ∷ (decimal m.y ++ 10 ∷ [])))) ≡ move_text g side m
unfolding move_text
move_is g side m = refl

-- the next move of a list
pub numbered_next : (g : Game) (xs : List Move) (i : ℕ) (d x : Move) → i < length xs → x ≡ slice_index_or xs i d → numbered_text g i (drop i xs) ≡ one_numbered g i x ++ numbered_text g (i + 1) (drop (i + 1) xs)
unfolding numbered_text
numbered_next g xs i d x within e =
    ap (numbered_text g i) (drop_more xs i d within)
    ∙ ap (λ m. decimal i ++ (32 ∷ (move_text g White m ++ numbered_text g (i + 1) (drop (i + 1) xs)))) (sym e)
    ∙ regrouped (decimal i) (move_text g White x) (numbered_text g (i + 1) (drop (i + 1) xs))
  where
    regrouped : (n m rest : List ℕ) → n ++ (32 ∷ (m ++ rest)) ≡ ((n ++ 32 ∷ []) ++ m) ++ rest
    regrouped n m rest = sym (append_assoc n (32 ∷ []) (m ++ rest)) ∙ sym (append_assoc (n ++ 32 ∷ []) m rest)

pub moves_is : (g : Game) (ms : List Move) → moves_text g ms ≡ count_text (length ms) ++ numbered_text g 0 ms
unfolding moves_text
moves_is g ms =
    let n = length ms in
    let rest = numbered_text g 0 ms in
    ap (λ t. codes "moves " ++ t) (sym (append_assoc (decimal n) (codes "\n") rest)) ∙ sym (append_assoc (codes "moves ") (decimal n ++ codes "\n") rest)

pub made_is : (g : Game) (side : Side) (m : Move) (word : List ℕ) → word ≡ side_word side → made_text g side m ≡ word ++ move_text g side m
unfolding made_text
made_is g side m word e = ap (λ w. w ++ move_text g side m) (sym e)

-- so many rows are left, one fewer behind the next
pub rows_fit : (width height i n : ℕ) → i < height → n ≡ (height - i) * width → (width ≤ n) × (n - width ≡ (height - (i + 1)) * width)
rows_fit width height i n lt e =
    let k : height - i ≡ suc (height - (i + 1)) = omega (arith, lt) in
    let m : n ≡ suc (height - (i + 1)) * width = e ∙ ap (λ r. r * width) k in
    let spread : suc (height - (i + 1)) * width ≡ width + (height - (i + 1)) * width = grind arith in
    (omega (arith, m, spread), omega (arith, m, spread))

pub no_rows : (width rows i : ℕ) (board : Board) → rows ≤ i → rows_text width (rows - i) board ≡ []
unfolding rows_text
no_rows width rows i board le = (let none : rows - i ≡ 0 = omega (arith, le) in ap (λ n. rows_text width n board) none)

pub no_moves : (g : Game) (ms : List Move) (i : ℕ) → length ms ≤ i → numbered_text g i (drop i ms) ≡ []
unfolding numbered_text
no_moves g ms i le = ap (numbered_text g i) (drop_all i ms le)

-- all of a text went in
pub all_added : (text rest : List ℕ) (old : Option (List ℕ)) (held_old : List ℕ) (new : Option (List ℕ)) (held_new : List ℕ) → rest ≡ [] → Added text rest old held_old new held_new → Adds text old held_old new held_new (Ok tt)
all_added text rest old held_old new held_new e added = added_last text rest [] e old new new held_old held_new held_new (Ok tt) added (adds_nothing new held_new)
