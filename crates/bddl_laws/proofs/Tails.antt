-- The tail's length is the greatest of all tails of the form.
use Rattle.std.proofs.Common.{◌≡◌, ℕ, suc, ◌≤◌, Bool, true, false, List, [], ◌∷◌, ◌++◌, length, if◌then◌else◌, ◌⊎◌, inl, inr, refl, sym, ap, ◌∙◌, subst, arith, length-append, append-nil, append_assoc}
use Rattle.bddl_model.specs.declared.formula.Bound.{Bound}
use Rattle.bddl_model.specs.declared.formula.Lit.{Lit}
use Rattle.bddl_model.specs.Truth.{Formula}
use Rattle.bddl_model.specs.Forms.{prefix_variables}
use Rattle.bddl_model.specs.Tail.{is_tail, tail_from, tail_length}

-- a tail behind some variables of the prefix
abbrev TailBehind : List (List Lit) → List ℕ → List Bound → ℕ → Type 0
TailBehind cs before bounds n = (front rest : List Bound) × (front ++ rest ≡ bounds) × (is_tail cs (before ++ prefix_variables front) rest ≡ true) × (length rest ≡ n)

-- one variable more before the front
moved : (cs : List (List Lit)) (before : List ℕ) (b : Bound) (front rest : List Bound) → is_tail cs (before ++ prefix_variables (b ∷ front)) rest ≡ is_tail cs ((before ++ b.var.0 ∷ []) ++ prefix_variables front) rest
moved cs before b front rest = ap (λ vs. is_tail cs vs rest) (sym (append_assoc before (b.var.0 ∷ []) (prefix_variables front)))

tail_from_is_greatest : (cs : List (List Lit)) (before : List ℕ) (front rest : List Bound) → is_tail cs (before ++ prefix_variables front) rest ≡ true → length rest ≤ tail_from cs before (front ++ rest)
tail_from_is_greatest cs before [] [] h = omega arith
tail_from_is_greatest cs before [] (t ∷ gates) h =
    let here : is_tail cs before (t ∷ gates) ≡ true = sym (ap (λ vs. is_tail cs vs (t ∷ gates)) (append-nil before)) ∙ h in
    rw here (omega arith)
tail_from_is_greatest cs before (b ∷ front) rest h =
    go (is_tail cs before (b ∷ front ++ rest)) (tail_from_is_greatest cs (before ++ b.var.0 ∷ []) front rest (sym (moved cs before b front rest) ∙ h))
  where
    go : (here : Bool) → length rest ≤ tail_from cs (before ++ b.var.0 ∷ []) (front ++ rest) → length rest ≤ (if here then length (b ∷ front ++ rest) else tail_from cs (before ++ b.var.0 ∷ []) (front ++ rest))
    go true le = let both = length-append front rest in omega (arith, both)
    go false le = le

tail_from_is_a_tail : (cs : List (List Lit)) (before : List ℕ) (bounds : List Bound) → (tail_from cs before bounds ≡ 0) ⊎ TailBehind cs before bounds (tail_from cs before bounds)
tail_from_is_a_tail cs before [] = inl refl
tail_from_is_a_tail cs before (b ∷ rest) = go (is_tail cs before (b ∷ rest)) refl (tail_from_is_a_tail cs (before ++ b.var.0 ∷ []) rest)
  where
    later : ℕ
    later = tail_from cs (before ++ b.var.0 ∷ []) rest

    length_is : Bool → ℕ
    length_is here = if here then suc (length rest) else later

    more : TailBehind cs (before ++ b.var.0 ∷ []) rest later → TailBehind cs before (b ∷ rest) later
    more (front, last, whole, is, count) = (b ∷ front, last, ap (λ bs. b ∷ bs) whole, moved cs before b front last ∙ is, count)

    go : (here : Bool) → is_tail cs before (b ∷ rest) ≡ here → (later ≡ 0) ⊎ TailBehind cs (before ++ b.var.0 ∷ []) rest later → (length_is here ≡ 0) ⊎ TailBehind cs before (b ∷ rest) (length_is here)
    go true e next = inr ([], b ∷ rest, refl, ap (λ vs. is_tail cs vs (b ∷ rest)) (append-nil before) ∙ e, refl)
    go false e (inl none) = inl none
    go false e (inr some) = inr (more some)

pub tail_is_greatest : (f : Formula) (front rest : List Bound) → front ++ rest ≡ f.prefix → is_tail f.clauses (prefix_variables front) rest ≡ true → length rest ≤ tail_length f
unfolding tail_length
tail_is_greatest f front rest whole h = subst (λ bounds. length rest ≤ tail_from f.clauses [] bounds) whole (tail_from_is_greatest f.clauses [] front rest h)

pub tail_is_a_tail : (f : Formula) → (tail_length f ≡ 0) ⊎ ((front rest : List Bound) × (front ++ rest ≡ f.prefix) × (is_tail f.clauses (prefix_variables front) rest ≡ true) × (length rest ≡ tail_length f))
unfolding tail_length
tail_is_a_tail f = tail_from_is_a_tail f.clauses [] f.prefix
