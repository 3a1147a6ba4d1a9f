-- Lists of numbers that stand apart, seen from their ends.
use Rattle.std.proofs.Common.{◌≡◌, ℕ, false, nat_eq, List, [], ◌∷◌, ◌++◌, refl, sym, ap, ◌∙◌, inl, inr, ◌⊎◌}
use Rattle.std.proofs.lemmas.Bool.{or_parts, or_from}
use Rattle.bddl_model.specs.Forms.{has_number, AllApart}
use Rattle.bddl_model.proofs.Assignments.{eqb_turned}
use Rattle.bddl_model.proofs.NumberLists.{has_append}

pub last_cases : {A : Type 0} (xs : List A) → (xs ≡ []) ⊎ ((ys : List A) × (y : A) × (xs ≡ ys ++ y ∷ []))
last_cases [] = inl refl
last_cases (x ∷ xs) = elim (last_cases xs) [
  | inl none ↦ inr ([], x, ap (λ l. x ∷ l) none)
  | inr some ↦ inr (x ∷ some.0, some.1, ap (λ l. x ∷ l) some.2)
]

pub apart_push : (vs : List ℕ) (v : ℕ) → AllApart vs → has_number vs v ≡ false → AllApart (vs ++ v ∷ [])
apart_push [] v apart h = (refl, tt)
apart_push (w ∷ ws) v apart h =
    let parts = or_parts (nat_eq w v) (has_number ws v) h in
    (has_append ws (v ∷ []) w ∙ or_from (has_number ws w) (has_number (v ∷ []) w) apart.0 (or_from (nat_eq v w) false (eqb_turned w v parts.0) refl), apart_push ws v apart.1 parts.1)

-- the last one stands apart from those before it
pub apart_parts : (vs : List ℕ) (v : ℕ) → AllApart (vs ++ v ∷ []) → AllApart vs × (has_number vs v ≡ false)
apart_parts [] v apart = (tt, refl)
apart_parts (w ∷ ws) v apart =
    let later = apart_parts ws v apart.1 in
    let none = or_parts (has_number ws w) (has_number (v ∷ []) w) (sym (has_append ws (v ∷ []) w) ∙ apart.0) in
    let other = or_parts (nat_eq v w) false none.1 in
    ((none.0, later.0), or_from (nat_eq w v) (has_number ws v) (eqb_turned v w other.0) later.1)

pub apart_front : (vs ws : List ℕ) → AllApart (vs ++ ws) → AllApart vs
apart_front [] ws apart = tt
apart_front (v ∷ vs) ws apart = ((or_parts (has_number vs v) (has_number ws v) (sym (has_append vs ws v) ∙ apart.0)).0, apart_front vs ws apart.1)
