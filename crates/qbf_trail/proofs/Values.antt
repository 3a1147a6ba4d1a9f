-- The values and the variables of entries, with one more at the end.
use Rattle.std.proofs.Common.{◌≡◌, ℕ, ◌<◌, ◌≤◌, Bool, true, false, List, [], ◌∷◌, ◌++◌, length, None, inl, inr, refl, sym, ◌∙◌, arith, length-append}
use Rattle.std.specs.Prelude.{◌==◌}
use Rattle.std.proofs.lemmas.Bool.{cases_Bool, or_parts, or_from}
use Rattle.std.proofs.lemmas.List.{length-map, map_push}
use Rattle.bddl_model.specs.declared.formula.Bound.{Bound}
use Rattle.bddl_model.specs.Forms.{has_number, prefix_variables, AllAmong, AllApart, AllPass}
use Rattle.bddl_model.proofs.Assignments.{eqb_turned}
use Rattle.bddl_model.proofs.NumberLists.{AllPass-append, has_append}
use Rattle.bddl_model.proofs.NumbersApart.{apart_push}
use Rattle.qbf_form.proofs.Variables.{few_among}
use Rattle.qbf_trail.specs.declared.entry.Entry.{Entry}
use Rattle.qbf_trail.specs.Entries.{entry_variables, value_in}

pub no_entry : (es : List Entry) (v : ℕ) → value_in es v ≡ None → has_number (entry_variables es) v ≡ false
no_entry [] v h = refl
no_entry (e ∷ es) v h = elim (cases_Bool (e.literal.var.0 == v)) [
  | inl same ↦ absurd (let none = rw same at h in cc)
  | inr other ↦ or_from (e.literal.var.0 == v) (has_number (entry_variables es) v) other (no_entry es v (rw other at h))
]

pub no_value : (es : List Entry) (v : ℕ) → has_number (entry_variables es) v ≡ false → value_in es v ≡ None
no_value [] v h = refl
no_value (e ∷ es) v h =
    let parts = or_parts (e.literal.var.0 == v) (has_number (entry_variables es) v) h in
    rw parts.0 (no_value es v parts.1)

pub value_last : (es : List Entry) (e : Entry) (v : ℕ) → value_in es v ≡ None → value_in (es ++ e ∷ []) v ≡ value_in (e ∷ []) v
value_last [] e v h = refl
value_last (d ∷ es) e v h = elim (cases_Bool (d.literal.var.0 == v)) [
  | inl same ↦ absurd (let none = rw same at h in cc)
  | inr other ↦ rw other (value_last es e v (rw other at h))
]

pub value_other : (es : List Entry) (e : Entry) (v : ℕ) → (e.literal.var.0 == v) ≡ false → value_in (es ++ e ∷ []) v ≡ value_in es v
value_other [] e v h = rw h refl
value_other (d ∷ es) e v h = elim (cases_Bool (d.literal.var.0 == v)) [
  | inl same ↦ rw same refl
  | inr other ↦ rw other (value_other es e v h)
]

pub variables_push : (es : List Entry) (e : Entry) → entry_variables (es ++ e ∷ []) ≡ entry_variables es ++ e.literal.var.0 ∷ []
variables_push es e = map_push (λ (d : Entry). d.literal.var.0) es e

pub apart_front : (vs : List ℕ) (v : ℕ) → AllApart (vs ++ v ∷ []) → AllApart vs × (has_number vs v ≡ false)
apart_front [] v apart = (tt, refl)
apart_front (w ∷ ws) v apart =
    let rest = apart_front ws v apart.1 in
    let parts = or_parts (has_number ws w) (has_number (v ∷ []) w) (sym (has_append ws (v ∷ []) w) ∙ apart.0) in
    ((parts.0, rest.0), or_from (w == v) (has_number ws v) (eqb_turned v w (or_parts (v == w) false parts.1).0) rest.1)

pub among_front : (test : ℕ → Bool) (vs : List ℕ) (v : ℕ) → AllPass test (vs ++ v ∷ []) → AllPass test vs × (test v ≡ true)
among_front test [] v all = (tt, all.0)
among_front test (w ∷ ws) v all = (let rest = among_front test ws v all.1 in ((all.0, rest.0), rest.1))

-- there are no more entries than variables
pub few_entries : (bounds : List Bound) (es : List Entry) → AllAmong (prefix_variables bounds) (entry_variables es) → AllApart (entry_variables es) → length es ≤ length bounds
few_entries bounds es bound once =
    let few = few_among (prefix_variables bounds) (entry_variables es) once bound in
    let variables = length-map bounds (λ (b : Bound). b.var.0) in
    let all = length-map es (λ (e : Entry). e.literal.var.0) in
    omega arith

-- and fewer where a variable is left
pub fewer_entries : (bounds : List Bound) (es : List Entry) (v : ℕ) → AllAmong (prefix_variables bounds) (entry_variables es) → AllApart (entry_variables es)
    → has_number (prefix_variables bounds) v ≡ true → value_in es v ≡ None → length es < length bounds
fewer_entries bounds es v bound once h free =
    let few = few_among (prefix_variables bounds) (entry_variables es ++ v ∷ []) (apart_push (entry_variables es) v once (no_entry es v free)) (AllPass-append (has_number (prefix_variables bounds)) (entry_variables es) (v ∷ []) bound (h, tt)) in
    let variables = length-map bounds (λ (b : Bound). b.var.0) in
    let all = length-map es (λ (e : Entry). e.literal.var.0) in
    let one = length-append (entry_variables es) (v ∷ []) in
    omega arith
