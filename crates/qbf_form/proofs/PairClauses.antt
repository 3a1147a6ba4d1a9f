-- A form has a clause of two literals exactly where its pairs have them.
use Rattle.std.proofs.Common.{◌≡◌, ℕ, ◌<◌, Bool, true, false, ◌||◌, List, [], ◌∷◌, ◌⊎◌, inl, inr, refl, sym, ap, ap₂, subst, ◌∙◌, arith, eq-eqb}
use Rattle.std.specs.Prelude.{◌==◌}
use Rattle.std.specs.List.{list_all}
use Rattle.std.proofs.lemmas.Bool.{cases_lt, lt-ltb, le-ltb, or_left, or_cases, or_parts, or_from, and_parts, and_from, false≢true}
use Rattle.std.proofs.lemmas.List.Folds.{list_any-append}
use Rattle.bddl_model.specs.declared.formula.Bound.{Bound}
use Rattle.bddl_model.specs.declared.formula.Lit.{Lit}
use Rattle.bddl_model.specs.Forms.{has_literal, literal_variables, same_literal, AllApart, AllFitPrefix}
use Rattle.bddl_model.specs.Tail.{same_clause, has_clause}
use Rattle.bddl_model.proofs.Assignments.{eqb_turned}
use Rattle.qbf_form.specs.declared.pairs.Pair.{Pair}
use Rattle.qbf_form.specs.Pairs.{pair_of, clause_pairs, pairs_of, same_pair, has_pair}
use Rattle.qbf_form.proofs.SameClauses.{same_bool, literals_same, literal_same, here, later, first_or_later, other_length}

-- ---- pairs

pairs_same : (p q : Pair) → same_pair p q ≡ true → p ≡ q
pairs_same p q h =
    let parts = and_parts (same_literal p.first q.first) (same_literal p.second q.second) h in
    ap₂ (λ (l m : Lit). record { first = l; second = m }) (literals_same p.first q.first parts.0) (literals_same p.second q.second parts.1)

pair_same : (p q : Pair) → p ≡ q → same_pair p q ≡ true
pair_same p q is = subst (λ (r : Pair). same_pair p r ≡ true) is (and_from (same_literal p.first p.first) (same_literal p.second p.second) (literal_same p.first) (literal_same p.second))

below_or_above : (v w : ℕ) → (v == w) ≡ false → (v < w) ⊎ (w < v)
below_or_above v w differ = elim (cases_lt v w) [
  | inl below ↦ inl below
  | inr above ↦ elim (cases_lt w v) [
    | inl strictly ↦ inr strictly
    | inr equal ↦ absurd (false≢true (sym differ ∙ eq-eqb v w (omega arith)))
  ]
]

-- literals of two variables make the same pair in either order
pair_turned : (l m : Lit) → (l.var.0 == m.var.0) ≡ false → pair_of l m ≡ pair_of m l
pair_turned l m differ = elim (below_or_above l.var.0 m.var.0 differ) [
  | inl below ↦ rw (lt-ltb l.var.0 m.var.0 below, le-ltb m.var.0 l.var.0 (omega arith)) refl
  | inr above ↦ rw (le-ltb l.var.0 m.var.0 (omega arith), lt-ltb m.var.0 l.var.0 above) refl
]

abbrev InSomeOrder : Lit → Lit → Lit → Lit → Type 0
InSomeOrder l m x y = ((x ≡ l) × (y ≡ m)) ⊎ ((x ≡ m) × (y ≡ l))

made_of : (x y f s : Lit) → pair_of x y ≡ record { first = f; second = s } → InSomeOrder f s x y
made_of x y f s h = elim (cases_lt x.var.0 y.var.0) [
  | inl below ↦ (let is = rw (lt-ltb x.var.0 y.var.0 below) at h in inl (ap (λ (p : Pair). p.first) is, ap (λ (p : Pair). p.second) is))
  | inr above ↦ (let is = rw (le-ltb x.var.0 y.var.0 above) at h in inr (ap (λ (p : Pair). p.second) is, ap (λ (p : Pair). p.first) is))
]

pair_tells : (l m x y : Lit) → pair_of l m ≡ pair_of x y → InSomeOrder l m x y
pair_tells l m x y h = elim (cases_lt l.var.0 m.var.0) [
  | inl below ↦ made_of x y l m (sym h ∙ rw (lt-ltb l.var.0 m.var.0 below) refl)
  | inr above ↦ elim (made_of x y m l (sym h ∙ rw (le-ltb l.var.0 m.var.0 above) refl)) [
    | inl turned ↦ inr turned
    | inr same ↦ inl same
  ]
]

-- ---- one clause

two_of : (p : Lit → Bool) (l m : Lit) → p l ≡ true → p m ≡ true → list_all p (l ∷ m ∷ []) ≡ true
two_of p l m first second = and_from (p l) (list_all p (m ∷ [])) first (and_from (p m) true second refl)

two_same : (l m : Lit) → same_clause (l ∷ m ∷ []) (l ∷ m ∷ []) ≡ true
two_same l m =
    let each = two_of (has_literal (l ∷ m ∷ [])) l m (here l (m ∷ [])) (later l m (m ∷ []) (here m [])) in
    and_from (list_all (has_literal (l ∷ m ∷ [])) (l ∷ m ∷ [])) (list_all (has_literal (l ∷ m ∷ [])) (l ∷ m ∷ [])) each each

two_turned : (l m : Lit) → same_clause (l ∷ m ∷ []) (m ∷ l ∷ []) ≡ true
two_turned l m =
    and_from (list_all (has_literal (m ∷ l ∷ [])) (l ∷ m ∷ [])) (list_all (has_literal (l ∷ m ∷ [])) (m ∷ l ∷ []))
    (two_of (has_literal (m ∷ l ∷ [])) l m (later m l (l ∷ []) (here l [])) (here m (l ∷ [])))
    (two_of (has_literal (l ∷ m ∷ [])) m l (later l m (m ∷ []) (here m [])) (here l (m ∷ [])))

two_apart : (l m : Lit) → (l.var.0 == m.var.0) ≡ false → AllApart (literal_variables (l ∷ m ∷ []))
two_apart l m differ = (or_from (m.var.0 == l.var.0) false (eqb_turned l.var.0 m.var.0 differ) refl, (refl, tt))

same_two_pair : (l m x y : Lit) → (l.var.0 == m.var.0) ≡ false → AllApart (literal_variables (x ∷ y ∷ [])) → same_clause (l ∷ m ∷ []) (x ∷ y ∷ []) ≡ true → pair_of l m ≡ pair_of x y
same_two_pair l m x y differ apart same =
    let each = (and_parts (list_all (has_literal (x ∷ y ∷ [])) (l ∷ m ∷ [])) (list_all (has_literal (l ∷ m ∷ [])) (x ∷ y ∷ [])) same).1 in
    let both = and_parts (has_literal (l ∷ m ∷ []) x) (list_all (has_literal (l ∷ m ∷ [])) (y ∷ [])) each in
    let last = and_parts (has_literal (l ∷ m ∷ []) y) true both.1 in
    elim (one_of x both.0) [
      | inl first ↦ elim (one_of y last.0) [
        | inl again ↦ absurd (equal_fails (first ∙ sym again))
        | inr second ↦ sym (ap₂ pair_of first second)
      ]
      | inr first ↦ elim (one_of y last.0) [
        | inl second ↦ pair_turned l m differ ∙ sym (ap₂ pair_of first second)
        | inr again ↦ absurd (equal_fails (first ∙ sym again))
      ]
    ]
  where
    one_of : (z : Lit) → has_literal (l ∷ m ∷ []) z ≡ true → (z ≡ l) ⊎ (z ≡ m)
    one_of z h = elim (first_or_later l z (m ∷ []) h) [
      | inl first ↦ inl first
      | inr rest ↦ elim (first_or_later m z [] rest) [
        | inl second ↦ inr second
        | inr nowhere ↦ absurd cc
      ]
    ]

    equal_fails : x ≡ y → ⊥
    equal_fails same = false≢true (sym (or_parts (y.var.0 == x.var.0) false apart.0).0 ∙ eq-eqb y.var.0 x.var.0 (ap (λ (z : Lit). z.var.0) (sym same)))

same_pair_two : (l m x y : Lit) → pair_of l m ≡ pair_of x y → same_clause (l ∷ m ∷ []) (x ∷ y ∷ []) ≡ true
same_pair_two l m x y h = elim (pair_tells l m x y h) [
  | inl same ↦ rw (same.0, same.1) (two_same l m)
  | inr turned ↦ rw (turned.0, turned.1) (two_turned l m)
]

pair_is : (l m : Lit) (c : List Lit) → (l.var.0 == m.var.0) ≡ false → AllApart (literal_variables c) → same_clause (l ∷ m ∷ []) c ≡ has_pair (clause_pairs c) (pair_of l m)
pair_is l m [] differ apart = other_length (l ∷ m ∷ []) [] 2 (two_apart l m differ) apart refl (λ e. absurd (omega arith))
pair_is l m (x ∷ []) differ apart = other_length (l ∷ m ∷ []) (x ∷ []) 2 (two_apart l m differ) apart refl (λ e. absurd (omega arith))
pair_is l m (x ∷ y ∷ z ∷ ls) differ apart = other_length (l ∷ m ∷ []) (x ∷ y ∷ z ∷ ls) 2 (two_apart l m differ) apart refl (λ e. absurd (omega arith))
pair_is l m (x ∷ y ∷ []) differ apart =
    same_bool (same_clause (l ∷ m ∷ []) (x ∷ y ∷ [])) (has_pair (clause_pairs (x ∷ y ∷ [])) (pair_of l m))
    (λ same. or_left (same_pair (pair_of l m) (pair_of x y)) false (pair_same (pair_of l m) (pair_of x y) (same_two_pair l m x y differ apart same)))
    (λ held. elim (or_cases (same_pair (pair_of l m) (pair_of x y)) false held) [
      | inl equal ↦ same_pair_two l m x y (pairs_same (pair_of l m) (pair_of x y) equal)
      | inr nowhere ↦ absurd cc
    ])

-- ---- all clauses

pub pairs_are : (bounds : List Bound) (cs : List (List Lit)) (l m : Lit) → AllFitPrefix bounds cs → (l.var.0 == m.var.0) ≡ false → has_clause cs (l ∷ m ∷ []) ≡ has_pair (pairs_of cs) (pair_of l m)
pairs_are bounds [] l m fit differ = refl
pairs_are bounds (c ∷ cs) l m fit differ =
    ap₂ (λ x y. x || y) (pair_is l m c differ fit.0.1) (pairs_are bounds cs l m fit.1 differ)
    ∙ sym (list_any-append (same_pair (pair_of l m)) (clause_pairs c) (pairs_of cs))
