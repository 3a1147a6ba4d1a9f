-- The marks of two boards, compared one by one.
use Rattle.std.proofs.Common.{◌≡◌, Bool, true, false, [], ◌∷◌, ◌&&◌, refl, ap₂}
use Rattle.std.specs.Cmp.Lexicographic.{pointwise}
use Rattle.bddl_model.specs.declared.game.Mark.{Mark}
use Rattle.bddl_model.specs.declared.game.Mark.TheVariants.{Free, Black, White}
use Rattle.bddl_model.specs.Board.{Board, same_mark}
use Rattle.bddl_model.specs.Certificate.{same_board}

pub mark_by_mark : (same : Mark → Mark → Bool) → ((a b : Mark) → same a b ≡ same_mark a b) → (one two : Board) → pointwise same one two ≡ same_board one two
mark_by_mark same is [] [] = refl
mark_by_mark same is [] (y ∷ ys) = refl
mark_by_mark same is (x ∷ xs) [] = refl
mark_by_mark same is (x ∷ xs) (y ∷ ys) = ap₂ (λ a b. a && b) (is x y) (mark_by_mark same is xs ys)

-- two equal tests of marks
pub each_mark : (same : Mark → Mark → Bool) → same Free Free ≡ true → same Free Black ≡ false → same Free White ≡ false → same Black Free ≡ false → same Black Black ≡ true
    → same Black White ≡ false → same White Free ≡ false → same White Black ≡ false → same White White ≡ true → (a b : Mark) → same a b ≡ same_mark a b
each_mark same a b c d e f g h i Free Free = a
each_mark same a b c d e f g h i Free Black = b
each_mark same a b c d e f g h i Free White = c
each_mark same a b c d e f g h i Black Free = d
each_mark same a b c d e f g h i Black Black = e
each_mark same a b c d e f g h i Black White = f
each_mark same a b c d e f g h i White Free = g
each_mark same a b c d e f g h i White Black = h
each_mark same a b c d e f g h i White White = i
