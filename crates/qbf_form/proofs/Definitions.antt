-- The variable that a clause of three literals defines, looked for literal by literal.
use Rattle.std.proofs.Common.{◌≡◌, ℕ, ◌<◌, ◌≤◌, Bool, ◌&&◌, ◌||◌, List, [], ◌∷◌, length, get_or, ap, ◌∙◌, arith}
use Rattle.std.specs.Prelude.{◌==◌}
use Rattle.std.proofs.Math.Bool.{or_assoc}
use Rattle.bddl_model.specs.declared.formula.Lit.{Lit}
use Rattle.qbf_form.specs.declared.pairs.Pair.{Pair}
use Rattle.qbf_form.specs.TailMarks.{is_head, is_defined}

abbrev HeadAt : (ℕ → ℕ) → (Pair → Bool) → Lit → Lit → Lit → ℕ → Bool
HeadAt place pairs head one other v = head.var.0 == v && is_head place pairs head one other

-- what was marked before each of three literals, and after them
pub marked_by_three : (place : ℕ → ℕ) (pairs : Pair → Bool) (clause : List Lit) (d : Lit) (before first second third : Bool) (v : ℕ) → 3 ≤ length clause → length clause < 4
    → first ≡ (before || (get_or clause 0 d).var.0 == v && is_head place pairs (get_or clause 0 d) (get_or clause 1 d) (get_or clause 2 d))
    → second ≡ (first || (get_or clause 1 d).var.0 == v && is_head place pairs (get_or clause 1 d) (get_or clause 0 d) (get_or clause 2 d))
    → third ≡ (second || (get_or clause 2 d).var.0 == v && is_head place pairs (get_or clause 2 d) (get_or clause 0 d) (get_or clause 1 d))
    → third ≡ (before || is_defined place pairs clause v)
marked_by_three place pairs [] d before first second third v low high a b c = absurd (omega arith)
marked_by_three place pairs (l ∷ []) d before first second third v low high a b c = absurd (omega arith)
marked_by_three place pairs (l ∷ m ∷ []) d before first second third v low high a b c = absurd (omega arith)
marked_by_three place pairs (l ∷ m ∷ n ∷ k ∷ ls) d before first second third v low high a b c = absurd (omega arith)
marked_by_three place pairs (l ∷ m ∷ n ∷ []) d before first second third v low high a b c =
    c ∙ ap (λ x. x || HeadAt place pairs n l m v) (b ∙ ap (λ x. x || HeadAt place pairs m l n v) a)
    ∙ ap (λ x. x || HeadAt place pairs n l m v) (or_assoc before (HeadAt place pairs l m n v) (HeadAt place pairs m l n v))
    ∙ or_assoc before (HeadAt place pairs l m n v || HeadAt place pairs m l n v) (HeadAt place pairs n l m v)
    ∙ ap (λ x. before || x) (or_assoc (HeadAt place pairs l m n v) (HeadAt place pairs m l n v) (HeadAt place pairs n l m v))
