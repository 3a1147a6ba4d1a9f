-- Where in its prefix the variables of a constraint stand.
use Rattle.std.proofs.Common.{◌≡◌, ℕ, zero, suc, ◌≤◌, ◌+◌, ◌-◌, Bool, true, false, ◌&&◌, ◌||◌, List, [], ◌∷◌, take, drop, ⊎_elim, refl, sym, ap, ◌∙◌, subst, arith, eqb-true, drop-drop}
use Rattle.std.specs.Prelude.{◌==◌}
use Rattle.std.proofs.lemmas.Bool.{or_parts, or_cases, or_left, or_right, and_parts, and_from, false≢true, false_from_ne_true}
use Rattle.bddl_model.specs.declared.formula.Quant.{Quant}
use Rattle.bddl_model.specs.declared.formula.Quant.TheVariants.{Exists, All}
use Rattle.bddl_model.specs.declared.formula.Bound.{Bound}
use Rattle.bddl_model.specs.declared.formula.Lit.{Lit}
use Rattle.bddl_model.specs.Forms.{prefix_variables, AllApart}
use Rattle.bddl_model.specs.FormulaText.{same_quant}
use Rattle.bddl_model.specs.Fine.{up_to, last_named}
use Rattle.bddl_model.proofs.Assignments.{binds}
use Rattle.bddl_laws.proofs.Fitting.{names}

-- a prefix binds the variable by this quantifier
abbrev pub binds_by : Quant → List Bound → ℕ → Bool
binds_by q [] v = false
binds_by q (b ∷ rest) v = (b.var.0 == v && same_quant b.quant q) || binds_by q rest v

-- ---- the first variables, and the others

binds_drop : (p : List Bound) (k v : ℕ) → binds p v ≡ false → binds (drop k p) v ≡ false
binds_drop p zero v h = h
binds_drop [] (suc k) v h = h
binds_drop (x ∷ p) (suc k) v h = binds_drop p k v (or_parts _ _ h).1

pub first_not_later : (p : List Bound) (k v : ℕ) → AllApart (prefix_variables p) → binds (take k p) v ≡ true → binds (drop k p) v ≡ false
first_not_later p zero v d h = absurd (false≢true h)
first_not_later [] (suc k) v d h = refl
first_not_later (x ∷ p) (suc k) v d h = ⊎_elim (λ e. binds_drop p k v (sym (ap (binds p) (eqb-true x.var.0 v e)) ∙ d.0)) (λ r. first_not_later p k v d.1 r) (or_cases (x.var.0 == v) (binds (take k p) v) h)

pub later_binds_fewer : (p : List Bound) (j k v : ℕ) → j ≤ k → binds (drop j p) v ≡ false → binds (drop k p) v ≡ false
later_binds_fewer p j k v le h =
    let e : j + (k - j) ≡ k = omega arith in
    subst (λ l. binds l v ≡ false) (drop-drop (k - j) j p ∙ ap (λ n. drop n p) e) (binds_drop (drop j p) (k - j) v h)

pub apart_drop : (p : List Bound) (k : ℕ) → AllApart (prefix_variables p) → AllApart (prefix_variables (drop k p))
apart_drop p zero d = d
apart_drop [] (suc k) d = d
apart_drop (x ∷ p) (suc k) d = apart_drop p k d.1

-- ---- the last variable of a quantifier that a constraint names

up_to_rest : (n k : ℕ) (here : Bool) → up_to n here ≤ suc k → n ≤ k
up_to_rest zero k here h = omega arith
up_to_rest (suc n) k here h = omega arith

up_to_none : (n : ℕ) (here : Bool) → up_to n here ≤ 0 → (n ≤ 0) × (here ≡ false)
up_to_none zero true h = absurd (omega arith)
up_to_none zero false h = (omega arith, refl)
up_to_none (suc n) here h = absurd (omega arith)

not_exists : (q : Quant) → same_quant q Exists ≡ false → same_quant q All ≡ true
not_exists Exists h = sym h
not_exists All h = refl

-- behind the last existential literal a named variable is universal
pub behind : (p : List Bound) (k : ℕ) (c : List Lit) (v : ℕ) → last_named Exists p c ≤ k → names c v ≡ true → binds p v ≡ true → binds (take k p) v ≡ false → binds_by All (drop k p) v ≡ true
behind [] k c v r n b o = absurd (false≢true b)
behind (x ∷ p) zero c v r n b o =
    let z = up_to_none _ _ r in
    ⊎_elim (λ e. or_left _ _ (and_from _ _ e (not_exists x.quant (first e z.1)))) (λ i. or_right _ _ (behind p zero c v z.0 n i refl)) (or_cases (x.var.0 == v) (binds p v) b)
  where
    first : (x.var.0 == v) ≡ true → (same_quant x.quant Exists && names c x.var.0) ≡ false → same_quant x.quant Exists ≡ false
    first e h = false_from_ne_true _ (λ s. false≢true (sym h ∙ and_from _ _ s (ap (names c) (eqb-true x.var.0 v e) ∙ n)))
behind (x ∷ p) (suc k) c v r n b o =
    let q = or_parts (x.var.0 == v) _ o in
    behind p k c v (up_to_rest _ _ _ r) n (⊎_elim (λ e. absurd (false≢true (sym q.0 ∙ e))) (λ i. i) (or_cases (x.var.0 == v) (binds p v) b)) q.1

-- a named variable of the quantifier is among the first, up to the last one
pub named_within : (q : Quant) (p : List Bound) (k : ℕ) (c : List Lit) (v : ℕ) → last_named q p c ≤ k → binds_by q p v ≡ true → names c v ≡ true → binds (take k p) v ≡ true
named_within q [] k c v r h n = absurd (false≢true h)
named_within q (x ∷ p) zero c v r h n = absurd (⊎_elim here (λ i. false≢true (named_within q p 0 c v none.0 i n)) (or_cases (x.var.0 == v && same_quant x.quant q) (binds_by q p v) h))
  where
    none : (last_named q p c ≤ 0) × ((same_quant x.quant q && names c x.var.0) ≡ false)
    none = up_to_none (last_named q p c) (same_quant x.quant q && names c x.var.0) r

    here : (x.var.0 == v && same_quant x.quant q) ≡ true → ⊥
    here i =
        let e = and_parts (x.var.0 == v) (same_quant x.quant q) i in
        false≢true (sym none.1 ∙ and_from _ _ e.1 (ap (names c) (eqb-true x.var.0 v e.0) ∙ n))
named_within q (x ∷ p) (suc k) c v r h n =
    ⊎_elim (λ i. or_left _ _ (and_parts (x.var.0 == v) _ i).0) (λ i. or_right _ _ (named_within q p k c v (up_to_rest (last_named q p c) k _ r) i n)) (or_cases (x.var.0 == v && same_quant x.quant q) (binds_by q p v) h)
