-- Under a prefix that begins with a block of one quantifier, some values of the block's variables settle the value.
use Rattle.std.proofs.Common.{◌≡◌, ℕ, zero, suc, ◌≤◌, Bool, true, false, List, [], ◌∷◌, length, if◌then◌else◌, ◌⊎◌, inl, inr, ⊎_elim, ◌↔◌, refl, sym, ap, ◌∙◌, subst, arith}
use Rattle.std.proofs.lemmas.Bool.{or_left, or_right}
use Rattle.bddl_model.specs.declared.formula.Quant.{Quant}
use Rattle.bddl_model.specs.declared.formula.Quant.TheVariants.{Exists, All}
use Rattle.bddl_model.specs.declared.formula.Bound.{Bound}
use Rattle.bddl_model.specs.Truth.{Assignment, assign, join, value}
use Rattle.bddl_model.specs.FormulaText.{same_quant}
use Rattle.bddl_model.specs.Fine.{first_block, with_first, value_under}
use Rattle.bddl_model.proofs.WrittenForms.{quants_same}

-- the value that one of a variable's two values alone can bring about
abbrev pub sought : Quant → Bool
sought Exists = true
sought All = false

one_brings : (q : Quant) (x y : Bool) → join q x y ≡ sought q → (x ≡ sought q) ⊎ (y ≡ sought q)
one_brings Exists true y h = inl refl
one_brings Exists false y h = inr h
one_brings All false y h = inl refl
one_brings All true y h = inr h

each_brings : (q : Quant) (f : Bool → Bool) (t : Bool) → f t ≡ sought q → join q (f true) (f false) ≡ sought q
each_brings Exists f true h = or_left _ _ h
each_brings Exists f false h = or_right _ _ h
each_brings All f true h = rw h
each_brings All f false h = rw h (at (f true))
  where
    at : (x : Bool) → join All x false ≡ false
    at true = refl
    at false = refl

begins : (t : Bool) (n k : ℕ) → suc n ≤ (if t then suc k else 0) → (t ≡ true) × (n ≤ k)
begins true n k h = (refl, omega (arith, h))
begins false n k h = absurd (omega (arith, h))

none_first : (prefix : List Bound) (a : Assignment) → with_first prefix [] a ≡ a
none_first [] a = refl
none_first (x ∷ rest) a = refl

abbrev Values : Quant → ℕ → List Bound → (Assignment → Bool) → Assignment → Type 0
Values q n prefix m a = (values : List Bool) × (length values ≡ n) × (value_under prefix m values a ≡ sought q)

some_values : (q : Quant) (n : ℕ) (prefix : List Bound) (m : Assignment → Bool) (a : Assignment) → n ≤ first_block q prefix → value prefix m a ≡ sought q → Values q n prefix m a
some_values q zero prefix m a within h = ([], refl, ap (value prefix m) (none_first prefix a) ∙ h)
some_values q (suc n) [] m a within h = absurd (omega (arith, within))
some_values q (suc n) (x ∷ rest) m a within h =
    ⊎_elim
    (λ i. step true (some_values q n rest m (assign x.var.0 true a) first.1 i))
    (λ i. step false (some_values q n rest m (assign x.var.0 false a) first.1 i))
    (one_brings q (behind true) (behind false) (subst (λ r. join r (behind true) (behind false) ≡ sought q) (quants_same x.quant q first.0) h))
  where
    behind : Bool → Bool
    behind t = value rest m (assign x.var.0 t a)

    first : (same_quant x.quant q ≡ true) × (n ≤ first_block q rest)
    first = begins (same_quant x.quant q) n (first_block q rest) within

    step : (t : Bool) → Values q n rest m (assign x.var.0 t a) → Values q (suc n) (x ∷ rest) m a
    step t v = (t ∷ v.0, ap suc v.1, v.2)

by_values : (q : Quant) (prefix : List Bound) (m : Assignment → Bool) (values : List Bool) (a : Assignment) → length values ≤ first_block q prefix → value_under prefix m values a ≡ sought q → value prefix m a ≡ sought q
by_values q prefix m [] a within h = sym (ap (value prefix m) (none_first prefix a)) ∙ h
by_values q [] m (t ∷ values) a within h = absurd (omega (arith, within))
by_values q (x ∷ rest) m (t ∷ values) a within h =
    subst (λ r. join r (behind true) (behind false) ≡ sought q) (sym (quants_same x.quant q first.0)) (each_brings q behind t (by_values q rest m values (assign x.var.0 t a) first.1 h))
  where
    behind : Bool → Bool
    behind t = value rest m (assign x.var.0 t a)

    first : (same_quant x.quant q ≡ true) × (length values ≤ first_block q rest)
    first = begins (same_quant x.quant q) (length values) (first_block q rest) within

pub first_values : (q : Quant) (n : ℕ) (prefix : List Bound) (m : Assignment → Bool) (a : Assignment) → n ≤ first_block q prefix → (value prefix m a ≡ sought q) ↔ Values q n prefix m a
first_values q n prefix m a within = (some_values q n prefix m a within, λ v. by_values q prefix m v.0 a (rw v.1 within) v.2)
