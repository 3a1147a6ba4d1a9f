-- Whether a constraint has a literal.
use Rattle.std.proofs.Common.{◌≡◌, ℕ, Bool, true, false, not, ◌&&◌, ◌||◌, List, [], ◌∷◌, ◌⊎◌, inl, inr, ⊎_elim, refl, sym, ap, ap₂, ◌∙◌, eqb-true, eq-eqb}
use Rattle.std.specs.Prelude.{◌==◌}
use Rattle.std.specs.Bool.{beq}
use Rattle.std.specs.Cmp.{booleans_Decides}
use Rattle.std.proofs.lemmas.Bool.{or_cases, or_left, or_right, and_parts, and_from, false≢true}
use Rattle.bddl_model.specs.declared.formula.Lit.{Lit}
use Rattle.bddl_model.specs.Truth.{negation}
use Rattle.bddl_model.specs.Forms.{literal_variables, AllApart, same_literal, has_literal}
use Rattle.bddl_model.specs.Resolution.{OneSign}
use Rattle.bddl_laws.proofs.Fitting.{names}
use Rattle.bddl_model.specs.Dual.{negated_literals}

pub same_as_itself : (l : Lit) → same_literal l l ≡ true
same_as_itself l = and_from _ _ (eq-eqb l.var.0 l.var.0 refl) ((booleans_Decides l.negated l.negated).1 refl)

pub has_first : (l : Lit) (c : List Lit) → has_literal (l ∷ c) l ≡ true
has_first l c = or_left _ _ (same_as_itself l)

-- a named variable's literal stands there with one sign or the other
pub has_either : (c : List Lit) (l : Lit) → names c l.var.0 ≡ true → (has_literal c l ≡ true) ⊎ (has_literal c (negation l) ≡ true)
has_either [] l n = absurd (false≢true n)
has_either (x ∷ c) l n = ⊎_elim here (λ r. ⊎_elim (λ i. inl (or_right _ _ i)) (λ i. inr (or_right _ _ i)) (has_either c l r)) (or_cases (x.var.0 == l.var.0) (names c l.var.0) n)
  where
    sign : (m n : Bool) → (beq m n ≡ true) ⊎ (beq (not m) n ≡ true)
    sign true true = inl refl
    sign true false = inr refl
    sign false true = inr refl
    sign false false = inl refl

    here : (x.var.0 == l.var.0) ≡ true → (has_literal (x ∷ c) l ≡ true) ⊎ (has_literal (x ∷ c) (negation l) ≡ true)
    here e =
        let turned = eq-eqb l.var.0 x.var.0 (sym (eqb-true x.var.0 l.var.0 e)) in
        ⊎_elim (λ s. inl (or_left _ _ (and_from _ _ turned s))) (λ s. inr (or_left _ _ (and_from _ _ turned s))) (sign l.negated x.negated)

pub has_named : (c : List Lit) (l : Lit) → has_literal c l ≡ true → names c l.var.0 ≡ true
has_named [] l h = absurd (false≢true h)
has_named (x ∷ c) l h = ⊎_elim (λ e. or_left _ _ (eq-eqb x.var.0 l.var.0 (sym (eqb-true l.var.0 x.var.0 (and_parts _ _ e).0)))) (λ r. or_right _ _ (has_named c l r)) (or_cases (l.var.0 == x.var.0 && beq l.negated x.negated) (has_literal c l) h)

-- ---- the negated literals

pub has_negated : (c : List Lit) (l : Lit) → has_literal (negated_literals c) l ≡ has_literal c (negation l)
has_negated [] l = refl
has_negated (x ∷ c) l = ap₂ (λ s t. (l.var.0 == x.var.0 && s) || t) (sign l.negated x.negated) (has_negated c l)
  where
    sign : (m n : Bool) → beq m (not n) ≡ beq (not m) n
    sign true true = refl
    sign true false = refl
    sign false true = refl
    sign false false = refl

pub has_both_negated : (c : List Lit) (l : Lit) → has_literal (negated_literals c) (negation l) ≡ has_literal c l
has_both_negated [] l = refl
has_both_negated (x ∷ c) l = ap₂ (λ s t. (l.var.0 == x.var.0 && s) || t) (sign l.negated x.negated) (has_both_negated c l)
  where
    sign : (m n : Bool) → beq (not m) (not n) ≡ beq m n
    sign true true = refl
    sign true false = refl
    sign false true = refl
    sign false false = refl

-- ---- one sign

pub sign_first : (v : ℕ) (n : Bool) (l : Lit) (c : List Lit) → OneSign v n (l ∷ c) → (l.var.0 == v) ≡ true → l.negated ≡ n
sign_first v n l c s e = s l (has_first l c) (eqb-true l.var.0 v e)

pub sign_rest : (v : ℕ) (n : Bool) (l : Lit) (c : List Lit) → OneSign v n (l ∷ c) → OneSign v n c
sign_rest v n l c s m h e = s m (or_right _ _ h) e

pub sign_negated : (v : ℕ) (n : Bool) (c : List Lit) → OneSign v n c → OneSign v (not n) (negated_literals c)
sign_negated v n c s l h e = back l.negated (s (negation l) (sym (has_negated c l) ∙ h) e)
  where
    back : (m : Bool) → not m ≡ n → m ≡ not n
    back true q = ap not q
    back false q = ap not q

-- where no variable stands twice, one literal tells its variable's sign
pub sign_of_literal : (c : List Lit) (l : Lit) → AllApart (literal_variables c) → has_literal c l ≡ true → OneSign l.var.0 l.negated c
sign_of_literal [] l d h m i e = absurd (false≢true h)
sign_of_literal (x ∷ c) l d h m i e = at (λ r s. sign_of_literal c l d.1 r m s e) (or_cases (l.var.0 == x.var.0 && beq l.negated x.negated) (has_literal c l) h) (or_cases (m.var.0 == x.var.0 && beq m.negated x.negated) (has_literal c m) i)
  where
    parts : (l : Lit) → (l.var.0 == x.var.0 && beq l.negated x.negated) ≡ true → (l.var.0 ≡ x.var.0) × (l.negated ≡ x.negated)
    parts l p = let q = and_parts (l.var.0 == x.var.0) (beq l.negated x.negated) p in (eqb-true l.var.0 x.var.0 q.0, (booleans_Decides l.negated x.negated).0 q.1)

    later : (l : Lit) → l.var.0 ≡ x.var.0 → has_literal c l ≡ true → ⊥
    later l same r = false≢true (sym d.0 ∙ sym (ap (names c) same) ∙ has_named c l r)

    at : (has_literal c l ≡ true → has_literal c m ≡ true → m.negated ≡ l.negated) → ((l.var.0 == x.var.0 && beq l.negated x.negated) ≡ true) ⊎ (has_literal c l ≡ true) → ((m.var.0 == x.var.0 && beq m.negated x.negated) ≡ true) ⊎ (has_literal c m ≡ true) → m.negated ≡ l.negated
    at next (inl p) (inl q) = (parts m q).1 ∙ sym (parts l p).1
    at next (inl p) (inr r) = absurd (later m (e ∙ (parts l p).0) r)
    at next (inr r) (inl q) = absurd (later l (sym e ∙ (parts m q).0) r)
    at next (inr r) (inr s) = next r s
