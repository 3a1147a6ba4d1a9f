-- The end of a comparison of replies and moves.
use Rattle.std.proofs.Common.{◌≡◌, ℕ, ◌<◌, ◌≤◌, List, [], ◌∷◌, length, drop, refl, ◌∙◌, arith}
use Rattle.std.specs.Prelude.{Option, Some}
use Rattle.std.proofs.lemmas.List.{length-drop}
use Rattle.bddl_model.specs.declared.game.Move.{Move}
use Rattle.bddl_model.specs.declared.certificate.Answered.{Answered}
use Rattle.bddl_model.specs.Certificate.{difference}

short : (n : ℕ) (rs : List Answered) (ms : List Move) → 0 < length rs → length ms ≡ 0 → Some n ≡ difference n rs ms
short n [] [] h e = absurd (omega arith)
short n [] (m ∷ ms) h e = absurd (omega arith)
short n (r ∷ rs) [] h e = refl
short n (r ∷ rs) (m ∷ ms) h e = absurd (omega arith)

long : (n : ℕ) (rs : List Answered) (ms : List Move) → length rs ≡ 0 → 0 < length ms → Some n ≡ difference n rs ms
long n [] [] h e = absurd (omega arith)
long n [] (m ∷ ms) h e = refl
long n (r ∷ rs) ms h e = absurd (omega arith)

pub short_at : (i : ℕ) (rs : List Answered) (ms : List Move) (o : Option ℕ) → i < length rs → length ms ≤ i → difference i (drop i rs) (drop i ms) ≡ o → Some i ≡ o
short_at i rs ms o h k e = short i (drop i rs) (drop i ms) (omega (arith, length-drop i rs)) (omega (arith, length-drop i ms)) ∙ e

pub long_at : (i : ℕ) (rs : List Answered) (ms : List Move) (o : Option ℕ) → length rs ≤ i → i < length ms → difference i (drop i rs) (drop i ms) ≡ o → Some i ≡ o
long_at i rs ms o h k e = long i (drop i rs) (drop i ms) (omega (arith, length-drop i rs)) (omega (arith, length-drop i ms)) ∙ e
