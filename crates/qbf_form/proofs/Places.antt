-- The place of each variable of a prefix, told from those of the prefix without its last one.
use Rattle.std.proofs.Common.{◌≡◌, ℕ, zero, suc, ◌+◌, ◌≤◌, ◌<◌, true, false, not, List, [], ◌∷◌, ◌++◌, length, get_or, inl, inr, refl, sym, subst, ◌∙◌, arith, eqb-true, eq-eqb, ne_eqb}
use Rattle.std.specs.Prelude.{◌==◌, nat_lt, slice_set}
use Rattle.std.proofs.lemmas.Bool.{cases_Bool, cases_lt, or_parts, or_cases, or_left, or_right, and_from, le-leb, lt-ltb, le-ltb, false≢true}
use Rattle.std.proofs.lemmas.List.{get_or-set_same, get_or-set_other, get_or_past, map_push, length-map}
use Rattle.bddl_model.specs.declared.formula.Bound.{Bound}
use Rattle.bddl_model.specs.Forms.{has_number, greatest_variables, prefix_variables, AllApart}
use Rattle.bddl_model.proofs.Assignments.{eqb_turned}
use Rattle.bddl_model.proofs.NumberLists.{AllPass-append, has_append}
use Rattle.bddl_model.proofs.NumbersApart.{apart_push}
use Rattle.qbf_form.specs.Places.{place_from, place_in, KeepsPlaces}

pub place_low : (n : ℕ) (vs : List ℕ) (v : ℕ) → has_number vs v ≡ true → n ≤ place_from n vs v
place_low n [] v h = absurd cc
place_low n (w ∷ ws) v h = elim (cases_Bool (w == v)) [
  | inl same ↦ rw same (omega arith)
  | inr other ↦ rw other (let later = place_low (suc n) ws v (rw other at h) in omega arith)
]

pub no_place : (n : ℕ) (vs : List ℕ) (v : ℕ) → has_number vs v ≡ false → place_from n vs v ≡ 0
no_place n [] v h = refl
no_place n (w ∷ ws) v h =
    let parts = or_parts (w == v) (has_number ws v) h in
    rw parts.0 (no_place (suc n) ws v parts.1)

pub place_of_last : (n : ℕ) (vs : List ℕ) (v : ℕ) → has_number vs v ≡ false → place_from n (vs ++ v ∷ []) v ≡ n + length vs
place_of_last n [] v h = rw (eq-eqb v v refl) (omega arith)
place_of_last n (w ∷ ws) v h =
    let parts = or_parts (w == v) (has_number ws v) h in
    rw parts.0 (let later = place_of_last (suc n) ws v parts.1 in omega arith)

pub place_of_other : (n : ℕ) (vs : List ℕ) (x v : ℕ) → (x == v) ≡ false → place_from n (vs ++ x ∷ []) v ≡ place_from n vs v
place_of_other n [] x v h = rw h refl
place_of_other n (w ∷ ws) x v h = elim (cases_Bool (w == v)) [
  | inl same ↦ rw same refl
  | inr other ↦ rw other (place_of_other (suc n) ws x v h)
]

-- ---- a table of places

pub has_place : (vs : List ℕ) (v place : ℕ) → place ≡ place_in vs v → not (place == 0) ≡ has_number vs v
has_place vs v place is = elim (cases_Bool (has_number vs v)) [
  | inl bound ↦ rw bound (let low = place_low 1 vs v bound in above place (omega arith))
  | inr free ↦ rw (free, is, no_place 1 vs v free) refl
]
  where
    above : (n : ℕ) → 1 ≤ n → not (n == 0) ≡ true
    above zero h = absurd (omega arith)
    above (suc n) h = rw (ne_eqb (suc n) 0 (λ e. absurd (omega arith))) refl

pub table_covers : (bounds : List Bound) (table : List ℕ) (v : ℕ) → KeepsPlaces bounds table → has_number (prefix_variables bounds) v ≡ true → v < length table
table_covers bounds table v keeps h = elim (cases_lt v (length table)) [
  | inl within ↦ within
  | inr past ↦ absurd (let low = place_low 1 (prefix_variables bounds) v h in let is = keeps.places v in let default = get_or_past table v 0 past in omega arith)
]

pub with_last : (bounds : List Bound) (b : Bound) (old table : List ℕ) (place : ℕ) → KeepsPlaces bounds old → 1 ≤ b.var.0 → b.var.0 ≤ greatest_variables → has_number (prefix_variables bounds) b.var.0 ≡ false
    → ((v : ℕ) → get_or table v 0 ≡ get_or old v 0) → b.var.0 < length table → place ≡ length bounds + 1 → KeepsPlaces (bounds ++ b ∷ []) (slice_set table b.var.0 place)
with_last bounds b old table place keeps low high new same room is = record {
  in_range = rw (map_push variable bounds b) (AllPass-append _ (prefix_variables bounds) (b.var.0 ∷ []) keeps.in_range (and_from _ _ (le-leb 1 b.var.0 low) (le-leb b.var.0 greatest_variables high), tt));
  apart = rw (map_push variable bounds b) (apart_push (prefix_variables bounds) b.var.0 keeps.apart new);
  places = λ v. rw (map_push variable bounds b) (at v);
}
  where
    variable : Bound → ℕ
    variable x = x.var.0

    at : (v : ℕ) → get_or (slice_set table b.var.0 place) v 0 ≡ place_in (prefix_variables bounds ++ b.var.0 ∷ []) v
    at v = elim (cases_Bool (b.var.0 == v)) [
      | inl here ↦ rw (← eqb-true b.var.0 v here) (get_or-set_same table b.var.0 place 0 room ∙ is ∙ sym (place_of_last 1 (prefix_variables bounds) b.var.0 new ∙ (let many = length-map bounds variable in omega arith)))
      | inr other ↦ get_or-set_other table b.var.0 v place 0 (λ e. false≢true (sym other ∙ eq-eqb b.var.0 v (sym e))) ∙ same v ∙ keeps.places v ∙ sym (place_of_other 1 (prefix_variables bounds) b.var.0 v other)
    ]

-- ---- places in order

has_middle : (front : List ℕ) (g : ℕ) (back : List ℕ) → has_number (front ++ g ∷ back) g ≡ true
has_middle front g back = has_append front (g ∷ back) g ∙ or_right (has_number front g) (has_number (g ∷ back) g) (or_left (g == g) (has_number back g) (eq-eqb g g refl))

middle_apart : (v : ℕ) (front : List ℕ) (g : ℕ) (back : List ℕ) → has_number (front ++ g ∷ back) v ≡ false → (g == v) ≡ false
middle_apart v front g back h =
    let parts = or_parts (has_number front v) (has_number (g ∷ back) v) (sym (has_append front (g ∷ back) v) ∙ h) in
    (or_parts (g == v) (has_number back v) parts.1).0

pub front_apart : (front : List ℕ) (g : ℕ) (back : List ℕ) (v : ℕ) → AllApart (front ++ g ∷ back) → has_number front v ≡ true → (v == g) ≡ false
front_apart [] g back v apart h = absurd cc
front_apart (w ∷ ws) g back v apart h = elim (or_cases (w == v) (has_number ws v) h) [
  | inl same ↦ subst (λ x. (x == g) ≡ false) (eqb-true w v same) (eqb_turned g w (middle_apart w ws g back apart.0))
  | inr later ↦ front_apart ws g back v apart.1 later
]

pub stands_before : (n : ℕ) (front : List ℕ) (g : ℕ) (back : List ℕ) (v : ℕ) → AllApart (front ++ g ∷ back) → has_number (front ++ g ∷ back) v ≡ true
    → nat_lt (place_from n (front ++ g ∷ back) v) (place_from n (front ++ g ∷ back) g) ≡ has_number front v
stands_before n [] g back v apart bound = rw (eq-eqb g g refl) (le-ltb (place_from n (g ∷ back) v) n (place_low n (g ∷ back) v bound))
stands_before n (w ∷ ws) g back v apart bound = elim (cases_Bool (w == v)) [
  | inl same ↦ rw (same, eqb_turned g w (middle_apart w ws g back apart.0)) (let low = place_low (suc n) (ws ++ g ∷ back) g (has_middle ws g back) in lt-ltb n (place_from (suc n) (ws ++ g ∷ back) g) (omega arith))
  | inr other ↦ rw (other, eqb_turned g w (middle_apart w ws g back apart.0)) (stands_before (suc n) ws g back v apart.1 (rw other at bound))
]
