-- Variables that are numbered one after the other.
use Rattle.std.proofs.Common.{◌≡◌, ℕ, zero, suc, ◌+◌, ◌<◌, ◌≤◌, true, false, List, [], ◌∷◌, ◌++◌, ◌⊎◌, inl, inr, ⊎_elim, refl, ap, ◌∙◌, arith, eq-eqb, ne_eqb}
use Rattle.std.proofs.lemmas.Bool.{cases_lt, or_from, or_left, or_right}
use Rattle.std.proofs.lemmas.List.{map-append}
use Rattle.bddl_model.specs.declared.formula.Quant.{Quant}
use Rattle.bddl_model.specs.declared.formula.Bound.{Bound}
use Rattle.bddl_model.specs.Forms.{has_number, prefix_variables}
use Rattle.bddl_model.specs.Layout.{bounds}

-- so many numbers from v on
abbrev pub counted : ℕ → ℕ → List ℕ
counted v zero = []
counted v (suc n) = v ∷ counted (suc v) n

pub counted-append : (v n m w : ℕ) → w ≡ v + n → counted v n ++ counted w m ≡ counted v (n + m)
counted-append v zero m w e = let same : w ≡ v = omega arith in let none : m ≡ 0 + m = omega arith in ap (λ x. counted x m) same ∙ ap (counted v) none
counted-append v (suc n) m w e =
    let one_more : suc (n + m) ≡ suc n + m = omega arith in
    ap (λ l. v ∷ l) (counted-append (suc v) n m w (omega arith)) ∙ ap (counted v) one_more

pub variables-bounds : (q : Quant) (v n : ℕ) → prefix_variables (bounds q v n) ≡ counted v n
variables-bounds q v zero = refl
variables-bounds q v (suc n) = ap (λ l. v ∷ l) (variables-bounds q (suc v) n)

pub variables-append : (xs ys : List Bound) → prefix_variables (xs ++ ys) ≡ prefix_variables xs ++ prefix_variables ys
variables-append xs ys = map-append (λ (b : Bound). b.var.0) xs ys

-- a number before them or behind them is not among them
pub not_counted : (v n w : ℕ) → (w < v) ⊎ (v + n ≤ w) → has_number (counted v n) w ≡ false
not_counted v zero w out = refl
not_counted v (suc n) w out = or_from _ _ (ne_eqb v w (λ e. ⊎_elim (λ l. omega arith) (λ g. omega arith) out)) (not_counted (suc v) n w (⊎_elim (λ l. inl (omega arith)) (λ g. inr (omega arith)) out))

pub among_counted : (v n w : ℕ) → v ≤ w → w < v + n → has_number (counted v n) w ≡ true
among_counted v zero w low high = absurd (omega arith)
among_counted v (suc n) w low high = ⊎_elim
    (λ lt. or_right _ _ (among_counted (suc v) n w lt (omega arith)))
    (λ le. or_left _ _ (eq-eqb v w (omega arith)))
    (cases_lt v w)
