-- Stones one after the other.
use Rattle.std.proofs.Common.{ℕ, suc, ◌≡◌, ◌+◌, ◌*◌, true, false, List, [], ◌∷◌, ◌++◌, refl, ap, ◌∙◌, arith}
use Rattle.std.specs.List.{list_any}
use Rattle.bddl_model.specs.declared.texts.InitAtom.{InitAtom}
use Rattle.bddl_model.specs.Check.{same_cell}
use Rattle.bddl_model.specs.Trial.{large_height, large_width, stone, stone_at, stones, with_stone}

pub no_stones : (number : ℕ) → [] ≡ stones number 0
unfolding stones
no_stones number = refl

one_more : (number n : ℕ) → with_stone (stones number n) (stone number n) ≡ stones number (suc n)
unfolding stones
one_more number n = refl

-- the list so far, with the next stone or without it
module _ (number n : ℕ) (m width height k : ℕ) (same : m ≡ number) (w : width ≡ large_width number) (h : height ≡ large_height number) (at : k ≡ 3 + 3 * n) (init : List InitAtom) (are : init ≡ stones number n) (s : InitAtom) (is : s ≡ stone_at m k width height) where
  is_stone : s ≡ stone number n
  is_stone = is ∙ rw (same, w, h, at) refl

  pub stone_left_out : list_any (same_cell s) init ≡ true → init ≡ stones number (n + 1)
  stone_left_out named =
      let e : suc n ≡ n + 1 = omega arith in
      let out : init ≡ with_stone init s = rw named refl in
      out ∙ rw (are, is_stone) refl ∙ one_more number n ∙ ap (stones number) e

  pub stone_put : list_any (same_cell s) init ≡ false → init ++ s ∷ [] ≡ stones number (n + 1)
  stone_put new =
      let e : suc n ≡ n + 1 = omega arith in
      let put : init ++ s ∷ [] ≡ with_stone init s = rw new refl in
      put ∙ rw (are, is_stone) refl ∙ one_more number n ∙ ap (stones number) e
