-- What a trail keeps when a literal is put, and when the last one is taken back.
use Rattle.std.proofs.Common.{◌≡◌, ℕ, ◌+◌, ◌<◌, Bool, true, false, not, List, [], ◌∷◌, ◌++◌, length, Option, None, Some, inl, inr, refl, sym, ap, ap₂, subst, ◌∙◌, arith, eqb-true, eq-eqb, get_or, vec_capacity}
use Rattle.std.specs.Prelude.{◌==◌, slice_set}
use Rattle.std.proofs.lemmas.Bool.{cases_Bool, false≢true}
use Rattle.std.proofs.lemmas.List.{get_or-set_same, get_or-set_other, length-set, length-map}
use Rattle.bddl_model.specs.declared.formula.Lit.{Lit}
use Rattle.bddl_model.specs.Forms.{has_number, prefix_variables}
use Rattle.bddl_model.proofs.NumberLists.{AllPass-append}
use Rattle.qbf_form.specs.Places.{place_in}
use Rattle.qbf_form.proofs.Places.{no_place, place_of_last, place_of_other}
use Rattle.bddl_model.proofs.NumbersApart.{apart_push}
use Rattle.qbf_trail.specs.declared.entry.Cause.{Cause}
use Rattle.qbf_trail.specs.declared.entry.Entry.{Entry}
use Rattle.qbf_trail.specs.declared.trail.Trail.TheInside.{Inside}
use Rattle.qbf_trail.specs.Entries.{Entries, AreEntries, entry_variables, value_in, raised, last_level, with_literal}
use Rattle.qbf_trail.specs.Kept.{shown, KeepsTrail}
use Rattle.qbf_trail.proofs.Levels.{raised_same, last_push, levels_push, levels_front}
use Rattle.qbf_trail.proofs.Values.{no_entry, no_value, value_last, value_other, variables_push, apart_front, among_front}

-- ---- entries

abbrev pub entry_of : Lit → Cause → ℕ → Entry
entry_of l cause level = record { literal = l; cause = cause; level = record { 0 = level } }

pub entries_put : (t : Entries) (l : Lit) (cause : Cause) → AreEntries t → has_number (prefix_variables t.prefix) l.var.0 ≡ true → value_in t.entries l.var.0 ≡ None → AreEntries (with_literal t l cause)
entries_put t l cause keeps bound free =
    let e = entry_of l cause (raised t.level cause) in
    record {
      bound = rw (variables_push t.entries e) (AllPass-append (has_number (prefix_variables t.prefix)) (entry_variables t.entries) (l.var.0 ∷ []) keeps.bound (bound, tt));
      once = rw (variables_push t.entries e) (apart_push (entry_variables t.entries) l.var.0 keeps.once (no_entry t.entries l.var.0 free));
      levels = levels_push 0 t.entries e keeps.levels (ap (λ n. raised n cause) keeps.last);
      last = sym (last_push 0 t.entries e);
    }

pub entries_back : (t : Entries) (l : Lit) (cause : Cause) → AreEntries (with_literal t l cause) → AreEntries t
entries_back t l cause keeps =
    let e = entry_of l cause (raised t.level cause) in
    let levels = levels_front 0 t.entries e keeps.levels in
    record {
      bound = (among_front (has_number (prefix_variables t.prefix)) (entry_variables t.entries) l.var.0 (rw (variables_push t.entries e) at keeps.bound)).0;
      once = (apart_front (entry_variables t.entries) l.var.0 (rw (variables_push t.entries e) at keeps.once)).0;
      levels = levels.0;
      last = raised_same t.level (last_level 0 t.entries) cause levels.1;
    }

-- what the last entry was put onto
pub taken_back : (t : Entries) (es : List Entry) (e : Entry) (level : ℕ) → AreEntries t → t.entries ≡ es ++ e ∷ [] → raised level e.cause ≡ t.level
    → t ≡ with_literal (record { prefix = t.prefix; entries = es; level = level }) e.literal e.cause
taken_back t es e level keeps is raise =
    ap₂ (λ ds n. record { prefix = t.prefix; entries = ds; level = n }) (is ∙ ap (λ n. es ++ entry_of e.literal e.cause n ∷ []) (sym (last_push 0 es e) ∙ ap (λ ds. last_level 0 ds) (sym is) ∙ sym keeps.last ∙ sym raise)) (sym raise)

-- ---- tables

values_put : (values : List (Option Bool)) (es : List Entry) (e : Entry) → ((v : ℕ) → get_or values v None ≡ value_in es v) → e.literal.var.0 < length values → value_in es e.literal.var.0 ≡ None
    → (v : ℕ) → get_or (slice_set values e.literal.var.0 (Some (not e.literal.negated))) v None ≡ value_in (es ++ e ∷ []) v
values_put values es e same within free v = elim (cases_Bool (e.literal.var.0 == v)) [
  | inl here ↦ rw (← eqb-true e.literal.var.0 v here) (get_or-set_same values e.literal.var.0 (Some (not e.literal.negated)) None within ∙ sym (value_last es e e.literal.var.0 free ∙ (rw (eq-eqb e.literal.var.0 e.literal.var.0 refl) refl)))
  | inr other ↦ get_or-set_other values e.literal.var.0 v (Some (not e.literal.negated)) None (λ k. false≢true (sym other ∙ eq-eqb e.literal.var.0 v (sym k))) ∙ same v ∙ sym (value_other es e v other)
]

values_back : (values : List (Option Bool)) (es : List Entry) (e : Entry) → ((v : ℕ) → get_or values v None ≡ value_in (es ++ e ∷ []) v) → e.literal.var.0 < length values → has_number (entry_variables es) e.literal.var.0 ≡ false
    → (v : ℕ) → get_or (slice_set values e.literal.var.0 None) v None ≡ value_in es v
values_back values es e same within free v = elim (cases_Bool (e.literal.var.0 == v)) [
  | inl here ↦ rw (← eqb-true e.literal.var.0 v here) (get_or-set_same values e.literal.var.0 None None within ∙ sym (no_value es e.literal.var.0 free))
  | inr other ↦ get_or-set_other values e.literal.var.0 v None None (λ k. false≢true (sym other ∙ eq-eqb e.literal.var.0 v (sym k))) ∙ same v ∙ value_other es e v other
]

places_put : (places vs : List ℕ) (w place : ℕ) → ((v : ℕ) → get_or places v 0 ≡ place_in vs v) → w < length places → has_number vs w ≡ false → place ≡ length vs + 1
    → (v : ℕ) → get_or (slice_set places w place) v 0 ≡ place_in (vs ++ w ∷ []) v
places_put places vs w place same within free is v = elim (cases_Bool (w == v)) [
  | inl here ↦ rw (← eqb-true w v here) (get_or-set_same places w place 0 within ∙ is ∙ sym (place_of_last 1 vs w free ∙ (omega arith)))
  | inr other ↦ get_or-set_other places w v place 0 (λ k. false≢true (sym other ∙ eq-eqb w v (sym k))) ∙ same v ∙ sym (place_of_other 1 vs w v other)
]

places_back : (places vs : List ℕ) (w : ℕ) → ((v : ℕ) → get_or places v 0 ≡ place_in (vs ++ w ∷ []) v) → w < length places → has_number vs w ≡ false
    → (v : ℕ) → get_or (slice_set places w 0) v 0 ≡ place_in vs v
places_back places vs w same within free v = elim (cases_Bool (w == v)) [
  | inl here ↦ rw (← eqb-true w v here) (get_or-set_same places w 0 0 within ∙ sym (no_place 1 vs w free))
  | inr other ↦ get_or-set_other places w v 0 0 (λ k. false≢true (sym other ∙ eq-eqb w v (sym k))) ∙ same v ∙ place_of_other 1 vs w v other
]

-- ---- the trail

pub keeps_put : (t next : Inside) (l : Lit) (cause : Cause) → KeepsTrail t → has_number (prefix_variables t.prefix) l.var.0 ≡ true → value_in t.entries.items l.var.0 ≡ None
    → shown next ≡ with_literal (shown t) l cause → vec_capacity next.entries ≡ vec_capacity t.entries → next.values.items ≡ slice_set t.values.items l.var.0 (Some (not l.negated))
    → next.places.items ≡ slice_set t.places.items l.var.0 (length t.entries.items + 1) → KeepsTrail next
keeps_put t next l cause keeps bound free is room values places =
    let e = entry_of l cause (raised t.level cause) in
    let within = keeps.covers l.var.0 bound in
    let prefix = ap (λ (s : Entries). s.prefix) is in
    let entries = ap (λ (s : Entries). s.entries) is in
    record {
      entries = rw is (entries_put (shown t) l cause keeps.entries bound free);
      values = λ v. rw (values, entries) (values_put t.values.items t.entries.items e keeps.values within.0 free v);
      places = λ v. rw (places, entries, variables_push t.entries.items e)
          (places_put t.places.items (entry_variables t.entries.items) l.var.0 (length t.entries.items + 1) keeps.places within.1 (no_entry t.entries.items l.var.0 free)
          (ap (λ n. n + 1) (sym (length-map t.entries.items (λ (d : Entry). d.literal.var.0)))) v);
      covers = λ v h. (let old = keeps.covers v (rw prefix at h) in
          (rw (values, length-set t.values.items l.var.0 (Some (not l.negated))) old.0, rw (places, length-set t.places.items l.var.0 (length t.entries.items + 1)) old.1));
      room = rw (prefix, room) keeps.room;
    }

pub entry_within : (t : Inside) (es : List Entry) (e : Entry) → KeepsTrail t → t.entries.items ≡ es ++ e ∷ [] → (e.literal.var.0 < length t.values.items) × (e.literal.var.0 < length t.places.items)
entry_within t es e keeps is =
    keeps.covers e.literal.var.0 (among_front (has_number (prefix_variables t.prefix)) (entry_variables es) e.literal.var.0 (rw (is, variables_push es e) at keeps.entries.bound)).1

pub keeps_back : (t next : Inside) (l : Lit) (cause : Cause) → KeepsTrail t → shown t ≡ with_literal (shown next) l cause → vec_capacity next.entries ≡ vec_capacity t.entries
    → next.values.items ≡ slice_set t.values.items l.var.0 None → next.places.items ≡ slice_set t.places.items l.var.0 0 → KeepsTrail next
keeps_back t next l cause keeps is room values places =
    let e = entry_of l cause (raised next.level cause) in
    let old : AreEntries (with_literal (shown next) l cause) = subst AreEntries is keeps.entries in
    let prefix : t.prefix ≡ next.prefix = ap (λ (s : Entries). s.prefix) is in
    let entries : t.entries.items ≡ next.entries.items ++ e ∷ [] = ap (λ (s : Entries). s.entries) is in
    let bound = (among_front (has_number (prefix_variables next.prefix)) (entry_variables next.entries.items) l.var.0 (rw (variables_push next.entries.items e) at old.bound)).1 in
    let free = (apart_front (entry_variables next.entries.items) l.var.0 (rw (variables_push next.entries.items e) at old.once)).1 in
    let within = keeps.covers l.var.0 (rw prefix bound) in
    record {
      entries = entries_back (shown next) l cause old;
      values = λ v. rw values (values_back t.values.items next.entries.items e (λ w. keeps.values w ∙ ap (λ es. value_in es w) entries) within.0 free v);
      places = λ v. rw places (places_back t.places.items (entry_variables next.entries.items) l.var.0 (λ w. keeps.places w ∙ ap (λ es. place_in (entry_variables es) w) entries ∙ ap (λ vs. place_in vs w) (variables_push next.entries.items e)) within.1 free v);
      covers = λ v h. (let before = keeps.covers v (rw prefix h) in
          (rw (values, length-set t.values.items l.var.0 None) before.0, rw (places, length-set t.places.items l.var.0 0) before.1));
      room = rw (← prefix, room) keeps.room;
    }
