-- What the tests of certificates say of sides, moves and places.
use Rattle.std.proofs.Common.{◌≡◌, ℕ, Bool, true, false, not, ◌&&◌, [], ◌∷◌, refl, arith}
use Rattle.std.specs.Prelude.{◌==◌}
use Rattle.std.proofs.lemmas.Bool.Decides.{nat_tests}
use Rattle.bddl_model.specs.declared.game.Mark.{Mark}
use Rattle.bddl_model.specs.declared.game.Mark.TheVariants as marks
use Rattle.bddl_model.specs.declared.game.Side.{Side}
use Rattle.bddl_model.specs.declared.game.Side.TheVariants.{Black, White}
use Rattle.bddl_model.specs.declared.game.Move.{Move}
use Rattle.bddl_model.specs.Board.{Board, same_mark}
use Rattle.bddl_model.specs.Certificate.{Place, same_side, same_board, same_place, same_move}

pub both : (a b : Bool) → (a && b) ≡ true → (a ≡ true) × (b ≡ true)
both true b h = (refl, h)
both false b h = absurd cc

pub together : (a b : Bool) → a ≡ true → b ≡ true → (a && b) ≡ true
together a b h k = rw h k

pub isnt : (a : Bool) → not a ≡ true → a ≡ false
isnt true h = absurd cc
isnt false h = refl

pub equal_numbers : (a b : ℕ) → (a == b) ≡ true → a ≡ b
equal_numbers a b h = grind (arith, nat_tests)

pub numbers_equal : (a b : ℕ) → a ≡ b → (a == b) ≡ true
numbers_equal a b h = grind (arith, nat_tests)

pub sides_equal : (a b : Side) → same_side a b ≡ true → a ≡ b
sides_equal Black Black h = refl
sides_equal White White h = refl
sides_equal Black White h = absurd cc
sides_equal White Black h = absurd cc

pub marks_equal : (a b : Mark) → same_mark a b ≡ true → a ≡ b
marks_equal marks.Free marks.Free h = refl
marks_equal marks.Black marks.Black h = refl
marks_equal marks.White marks.White h = refl
marks_equal marks.Free marks.Black h = absurd cc
marks_equal marks.Free marks.White h = absurd cc
marks_equal marks.Black marks.Free h = absurd cc
marks_equal marks.Black marks.White h = absurd cc
marks_equal marks.White marks.Free h = absurd cc
marks_equal marks.White marks.Black h = absurd cc

abbrev made : ℕ → ℕ → ℕ → Move
made a x y = record { action = a; x = x; y = y }

move_of : (a b c d e f : ℕ) → a ≡ b → c ≡ d → e ≡ f → made a c e ≡ made b d f
move_of a b c d e f p q r = cc

pub moves_equal : (a b : Move) → same_move a b ≡ true → a ≡ b
moves_equal a b h =
    let p = both (a.action == b.action) _ h in
    let q = both (a.x == b.x) (a.y == b.y) p.1 in
    let e : a.action ≡ b.action = equal_numbers a.action b.action p.0 in
    let f : a.x ≡ b.x = equal_numbers a.x b.x q.0 in
    let k : a.y ≡ b.y = equal_numbers a.y b.y q.1 in
    move_of a.action b.action a.x b.x a.y b.y e f k

pub boards_equal : (a b : Board) → same_board a b ≡ true → a ≡ b
boards_equal [] [] h = refl
boards_equal [] (y ∷ ys) h = absurd cc
boards_equal (x ∷ xs) [] h = absurd cc
boards_equal (x ∷ xs) (y ∷ ys) h =
    let p = both (same_mark x y) (same_board xs ys) h in
    let e = marks_equal x y p.0 in
    let f = boards_equal xs ys p.1 in
    cc

abbrev stood : Side → Board → ℕ → Place
stood s b n = record { side = s; board = b; left = n }

place_of : (a b : Side) (c d : Board) (e f : ℕ) → a ≡ b → c ≡ d → e ≡ f → stood a c e ≡ stood b d f
place_of a b c d e f p q r = cc

pub places_equal : (p q : Place) → same_place p q ≡ true → p ≡ q
places_equal p q h =
    let a = both (same_side p.side q.side) _ h in
    let b = both (p.left == q.left) (same_board p.board q.board) a.1 in
    let e = sides_equal p.side q.side a.0 in
    let f = equal_numbers p.left q.left b.0 in
    let k = boards_equal p.board q.board b.1 in
    place_of p.side q.side p.board q.board p.left q.left e k f

-- ---- each is the same as itself

mark_itself : (a : Mark) → same_mark a a ≡ true
mark_itself marks.Free = refl
mark_itself marks.Black = refl
mark_itself marks.White = refl

side_itself : (a : Side) → same_side a a ≡ true
side_itself Black = refl
side_itself White = refl

board_itself : (a : Board) → same_board a a ≡ true
board_itself [] = refl
board_itself (x ∷ xs) = together (same_mark x x) _ (mark_itself x) (board_itself xs)

pub place_itself : (p : Place) → same_place p p ≡ true
place_itself p = together (same_side p.side p.side) _ (side_itself p.side) (together (p.left == p.left) _ (numbers_equal p.left p.left refl) (board_itself p.board))
