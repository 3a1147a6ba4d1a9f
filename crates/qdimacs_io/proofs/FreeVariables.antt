-- The variables that occur and that no set binds, and the prefix with them in front.
use Rattle.std.proofs.Common.{◌≡◌, ℕ, suc, ◌+◌, ◌<◌, ◌≤◌, Bool, true, false, ◌&&◌, not, List, [], ◌∷◌, ◌++◌, map, get_or, refl, sym, ap, subst, ◌∙◌, inl, inr, arith, append_assoc}
use Rattle.std.specs.List.{range_with_len, filter}
use Rattle.std.specs.Prelude.{◌==◌}
use Rattle.std.proofs.lemmas.Bool.{cases_Bool, or_cases, or_left, or_right, or_from, and_parts, eqb-true, eq-eqb}
use Rattle.std.proofs.lemmas.List.{map-append}
use Rattle.bddl_model.specs.declared.formula.Bound.{Bound}
use Rattle.bddl_model.specs.declared.formula.Quant.{Quant}
use Rattle.bddl_model.specs.declared.formula.Quant.TheVariants.{Exists}
use Rattle.bddl_model.specs.Forms.{has_number, prefix_variables, AllApart}
use Rattle.bddl_model.specs.Qdimacs.{bound_of}
use Rattle.bddl_model.proofs.NumberLists.{has_append}
use Rattle.bddl_model.proofs.NumbersApart.{apart_front, apart_parts}
use Rattle.qdimacs_io.specs.States.{free_marks}

abbrev pub is_free : List Bool → List Bound → ℕ → Bool
is_free marks bounds v = get_or marks v false && not (has_number (prefix_variables bounds) v)

abbrev pub free_among : List Bool → List Bound → List ℕ → List ℕ
free_among marks bounds vs = filter (is_free marks bounds) vs

-- ---- one more number

module _ (marks : List Bool) (bounds : List Bound) where
  free_next : (n k less : ℕ) → k ≡ suc less → true ≡ is_free marks bounds n → free_among marks bounds (range_with_len n k) ≡ n ∷ free_among marks bounds (range_with_len (n + 1) less)
  free_next n k less more is = rw (more, sym is) refl

  bound_next : (n k less : ℕ) → k ≡ suc less → false ≡ is_free marks bounds n → free_among marks bounds (range_with_len n k) ≡ free_among marks bounds (range_with_len (n + 1) less)
  bound_next n k less more is = rw (more, sym is) refl

  pub one_is_free : (n k less : ℕ) (free more all : List Bound) → k ≡ suc less → true ≡ is_free marks bounds n → more ≡ free ++ bound_of Exists n ∷ []
      → free ++ map (bound_of Exists) (free_among marks bounds (range_with_len n k)) ≡ all → more ++ map (bound_of Exists) (free_among marks bounds (range_with_len (n + 1) less)) ≡ all
  one_is_free n k less free more all count is new h =
      ap (λ (f : List Bound). f ++ map (bound_of Exists) (free_among marks bounds (range_with_len (n + 1) less))) new
      ∙ append_assoc free (bound_of Exists n ∷ []) (map (bound_of Exists) (free_among marks bounds (range_with_len (n + 1) less)))
      ∙ ap (λ (vs : List ℕ). free ++ map (bound_of Exists) vs) (sym (free_next n k less count is)) ∙ h

  pub one_is_not : (n k less : ℕ) (free more all : List Bound) → k ≡ suc less → false ≡ is_free marks bounds n → more ≡ free
      → free ++ map (bound_of Exists) (free_among marks bounds (range_with_len n k)) ≡ all → more ++ map (bound_of Exists) (free_among marks bounds (range_with_len (n + 1) less)) ≡ all
  one_is_not n k less free more all count is same h =
      ap (λ (f : List Bound). f ++ map (bound_of Exists) (free_among marks bounds (range_with_len (n + 1) less))) same
      ∙ ap (λ (vs : List ℕ). free ++ map (bound_of Exists) vs) (sym (bound_next n k less count is)) ∙ h

pub below_more : (n : ℕ) (free more : List Bound) → more ≡ free ++ bound_of Exists n ∷ [] → ((v : ℕ) → has_number (prefix_variables free) v ≡ true → v < n) → (v : ℕ) → has_number (prefix_variables more) v ≡ true → v < n + 1
below_more n free more new below v h =
    elim (or_cases (has_number (prefix_variables free) v) (has_number (n ∷ []) v) (sym (has_append (prefix_variables free) (n ∷ []) v) ∙ ap (λ (vs : List ℕ). has_number vs v) (sym (ap prefix_variables new ∙ map-append (λ (b : Bound). b.var.0) free (bound_of Exists n ∷ []))) ∙ h)) [
      | inl old ↦ (let low = below v old in omega arith)
      | inr last ↦ elim (or_cases (n == v) false last) [
        | inl same ↦ (let is = eqb-true n v same in omega arith)
        | inr none ↦ absurd cc
      ]
    ]

pub below_still : (n : ℕ) (free more : List Bound) → more ≡ free → ((v : ℕ) → has_number (prefix_variables free) v ≡ true → v < n) → (v : ℕ) → has_number (prefix_variables more) v ≡ true → v < n + 1
below_still n free more same below v h = let low = below v (ap (λ (bs : List Bound). has_number (prefix_variables bs) v) (sym same) ∙ h) in omega arith

pub not_below : (n v : ℕ) (free : List Bound) → n ≤ v → ((w : ℕ) → has_number (prefix_variables free) w ≡ true → w < n) → has_number (prefix_variables free) v ≡ false
not_below n v free le below = elim (cases_Bool (has_number (prefix_variables free) v)) [
  | inr none ↦ none
  | inl some ↦ absurd (let low = below v some in omega arith)
]

-- ---- in front of the others

pub variables_of : (q : Quant) (vs : List ℕ) → prefix_variables (map (bound_of q) vs) ≡ vs
variables_of q [] = refl
variables_of q (v ∷ vs) = ap (λ l. v ∷ l) (variables_of q vs)

apart_from : (vs ws : List ℕ) → AllApart vs → AllApart ws → ((v : ℕ) → has_number vs v ≡ true → has_number ws v ≡ false) → AllApart (vs ++ ws)
apart_from [] ws a b apart = b
apart_from (v ∷ vs) ws a b apart = (
  has_append vs ws v ∙ or_from (has_number vs v) (has_number ws v) a.0 (apart v (or_left (v == v) (has_number vs v) (eq-eqb v v refl))),
  apart_from vs ws a.1 b (λ w h. apart w (or_right (v == w) (has_number vs w) h)),
)

among_passes : (test : ℕ → Bool) (vs : List ℕ) (v : ℕ) → has_number (filter test vs) v ≡ true → test v ≡ true
among_passes test [] v h = absurd cc
among_passes test (w ∷ ws) v h = elim (cases_Bool (test w)) [
  | inr fails ↦ among_passes test ws v (rw fails at h)
  | inl passes ↦ elim (or_cases (w == v) (has_number (filter test ws) v) (rw passes at h)) [
    | inl same ↦ subst (λ x. test x ≡ true) (eqb-true w v same) passes
    | inr later ↦ among_passes test ws v later
  ]
]

pub free_apart : (most : ℕ) (marks : List Bool) (bounds free : List Bound) → free ≡ map (bound_of Exists) (free_marks most marks bounds) → AllApart (prefix_variables free) → AllApart (prefix_variables bounds)
    → AllApart (prefix_variables (free ++ bounds))
free_apart most marks bounds free is a b =
    subst (λ vs. AllApart vs) (sym (map-append (λ (x : Bound). x.var.0) free bounds)) (apart_from (prefix_variables free) (prefix_variables bounds) a b unbound)
  where
    not_true : (b : Bool) → not b ≡ true → b ≡ false
    not_true true h = absurd cc
    not_true false h = refl

    unbound : (v : ℕ) → has_number (prefix_variables free) v ≡ true → has_number (prefix_variables bounds) v ≡ false
    unbound v h =
        let among : has_number (free_marks most marks bounds) v ≡ true = ap (λ (vs : List ℕ). has_number vs v) (sym (ap prefix_variables is ∙ variables_of Exists (free_marks most marks bounds))) ∙ h in
        let free = and_parts (get_or marks v false) (not (has_number (prefix_variables bounds) v)) (among_passes (is_free marks bounds) (range_with_len 1 most) v among) in
        not_true (has_number (prefix_variables bounds) v) free.1

-- the next of the others is not bound so far
pub next_unbound : (front rest all : List Bound) (b : Bound) (others : List Bound) → others ≡ b ∷ rest → front ++ others ≡ all → AllApart (prefix_variables all) → has_number (prefix_variables front) b.var.0 ≡ false
next_unbound front rest all b others first is apart =
    let here : AllApart (prefix_variables (front ++ b ∷ rest)) = subst (λ (bs : List Bound). AllApart (prefix_variables bs)) (sym is ∙ ap (λ (bs : List Bound). front ++ bs) first) apart in
    let parts : AllApart ((prefix_variables front ++ b.var.0 ∷ []) ++ prefix_variables rest) =
    subst (λ (vs : List ℕ). AllApart vs) (map-append (λ (x : Bound). x.var.0) front (b ∷ rest) ∙ sym (append_assoc (prefix_variables front) (b.var.0 ∷ []) (prefix_variables rest))) here in
    (apart_parts (prefix_variables front) b.var.0 (apart_front (prefix_variables front ++ b.var.0 ∷ []) (prefix_variables rest) parts)).1
