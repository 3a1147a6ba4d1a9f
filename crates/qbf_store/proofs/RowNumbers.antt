-- Each literal of a bound variable has a row of its own.
use Rattle.std.proofs.Common.{◌≡◌, ℕ, suc, ◌+◌, ◌*◌, ◌≤◌, ◌<◌, Bool, true, false, List, [], ◌∷◌, length, inl, inr, refl, sym, ◌∙◌, arith, eqb-true, if◌then◌else◌}
use Rattle.std.specs.Prelude.{◌==◌}
use Rattle.std.proofs.lemmas.Bool.{cases_Bool}
use Rattle.std.proofs.lemmas.List.{length-map}
use Rattle.bddl_model.specs.declared.formula.Bound.{Bound}
use Rattle.bddl_model.specs.declared.formula.Lit.{Lit}
use Rattle.bddl_model.specs.Forms.{has_number, prefix_variables}
use Rattle.qbf_form.specs.Places.{place_from, place_in}
use Rattle.qbf_form.proofs.Places.{place_low, no_place}
use Rattle.qbf_form.proofs.SameClauses.{equal_literals}
use Rattle.qbf_store.specs.Rows.{row_of, row_count}

place_high : (n : ℕ) (vs : List ℕ) (v : ℕ) → 1 ≤ n → place_from n vs v < n + length vs
place_high n [] v low = omega arith
place_high n (w ∷ ws) v low = elim (cases_Bool (w == v)) [
  | inl same ↦ rw same (omega arith)
  | inr other ↦ rw other (let later = place_high (suc n) ws v (omega arith) in omega arith)
]

-- behind the first place there is none with its number
no_first : (n : ℕ) (vs : List ℕ) (v : ℕ) → 1 ≤ n → place_from (suc n) vs v ≡ n → ⊥
no_first n vs v low same = elim (cases_Bool (has_number vs v)) [
  | inl bound ↦ (let later = place_low (suc n) vs v bound in absurd (omega arith))
  | inr free ↦ (let none = no_place (suc n) vs v free in absurd (omega arith))
]

same_place : (n : ℕ) (vs : List ℕ) (v w : ℕ) → 1 ≤ n → has_number vs w ≡ true → place_from n vs v ≡ place_from n vs w → v ≡ w
same_place n [] v w low h same = absurd cc
same_place n (u ∷ us) v w low h same = elim (cases_Bool (u == v)) [
  | inl first ↦ elim (cases_Bool (u == w)) [
    | inl both ↦ sym (eqb-true u v first) ∙ eqb-true u w both
    | inr later ↦ absurd (no_first n us w low (sym (rw (first, later) at same)))
  ]
  | inr other ↦ elim (cases_Bool (u == w)) [
    | inl here ↦ absurd (no_first n us v low (rw (other, here) at same))
    | inr neither ↦ same_place (suc n) us v w (omega arith) (rw neither at h) (rw (other, neither) at same)
  ]
]

sign_apart : (p q : ℕ) (a b : Bool) → 2 * p + (if a then 1 else 0) ≡ 2 * q + (if b then 1 else 0) → (p ≡ q) × (a ≡ b)
sign_apart p q true true h = (omega arith, refl)
sign_apart p q false false h = (omega arith, refl)
sign_apart p q true false h = absurd (omega arith)
sign_apart p q false true h = absurd (omega arith)

pub same_row : (bounds : List Bound) (l m : Lit) → has_number (prefix_variables bounds) m.var.0 ≡ true → row_of bounds l ≡ row_of bounds m → l ≡ m
same_row bounds l m bound same =
    let parts = sign_apart (place_in (prefix_variables bounds) l.var.0) (place_in (prefix_variables bounds) m.var.0) l.negated m.negated same in
    equal_literals l m (same_place 1 (prefix_variables bounds) l.var.0 m.var.0 (omega arith) bound parts.0) parts.1

one_sign : (a : Bool) → (if a then 1 else 0) ≤ 1
one_sign true = omega arith
one_sign false = omega arith

pub row_within : (bounds : List Bound) (l : Lit) → row_of bounds l < row_count bounds
row_within bounds l =
    let high = place_high 1 (prefix_variables bounds) l.var.0 (omega arith) in
    let many = length-map bounds (λ (b : Bound). b.var.0) in
    let sign = one_sign l.negated in
    omega arith
