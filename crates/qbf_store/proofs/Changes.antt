-- What a store keeps when a constraint comes or goes.
use Rattle.std.proofs.Common.{◌≡◌, ◌≢◌, ℕ, zero, suc, ◌+◌, ◌-◌, ◌<◌, Bool, true, false, ◌&&◌, List, [], ◌∷◌, length, map, get_or, Option, Some, None, inl, inr, refl, sym, ap, ap₂, subst, ◌∙◌, arith, if◌then◌else◌}
use Rattle.std.specs.Prelude.{count_by, is_some}
use Rattle.std.specs.Option.{option_map_or}
use Rattle.std.proofs.lemmas.Bool.{cases_Bool}
use Rattle.std.proofs.lemmas.List.Sums.{sum_by-cons}
use Rattle.std.proofs.lemmas.Option.{same_Some, none-some}
use Rattle.slab.specs.Slab.{Slab, Updates, get, slab_len}
use Rattle.bddl_model.specs.declared.formula.Kind.{Kind}
use Rattle.bddl_model.specs.declared.formula.Kind.TheVariants.{Clause, Cube}
use Rattle.bddl_model.specs.declared.formula.Lit.{Lit}
use Rattle.bddl_model.specs.Truth.{Formula}
use Rattle.bddl_model.specs.Forms.{has_literal, FitsPrefix}
use Rattle.bddl_model.specs.Fine.{IsFine}
use Rattle.qbf_store.specs.declared.constraint.ConstraintId.{ConstraintId}
use Rattle.qbf_store.specs.declared.constraint.ConstraintId.TheVariants.{Original, Learned}
use Rattle.qbf_store.specs.declared.constraint.LearnedConstraint.{LearnedConstraint}
use Rattle.qbf_store.specs.Constraints.{Constraint, Constraints, constraint, holds, same_id, times, learned_count, AreFine, ChangesAt}
use Rattle.qbf_store.specs.Rows.{Rows, row, row_of, row_count, entered}
use Rattle.qbf_store.specs.Kept.{seen, RowsHold, KeepsConstraints}
use Rattle.qbf_store.proofs.Ids.{ids_same, ids_differ}

-- ---- what contracts see of the learned constraints

pub seen_at : (slots : List (Option LearnedConstraint)) (n : ℕ) → get_or (map seen slots) n None ≡ seen (get_or slots n None)
seen_at [] n = refl
seen_at (x ∷ slots) zero = refl
seen_at (x ∷ slots) (suc n) = seen_at slots n

seen_is : (x : Option LearnedConstraint) → is_some (seen x) ≡ is_some x
seen_is None = refl
seen_is (Some x) = refl

pub seen_count : (slots : List (Option LearnedConstraint)) → count_by is_some (map seen slots) ≡ count_by is_some slots
seen_count [] = refl
seen_count (x ∷ slots) =
    sum_by-cons (λ y. if is_some y then 1 else 0) (seen x) (map seen slots) ∙ ap₂ (λ b n. (if b then 1 else 0) + n) (seen_is x) (seen_count slots) ∙ sym (sum_by-cons (λ y. if is_some y then 1 else 0) x slots)

abbrev pub view_of : Formula → ℕ → Slab LearnedConstraint → Constraints
view_of form most learned = record { form = form; learned = map seen learned.slots; most = most }

pub changes : (form : Formula) (most : ℕ) (old new : Slab LearnedConstraint) (n : ℕ) (slot : Option LearnedConstraint) → Updates old new n slot
    → ChangesAt (view_of form most old) (view_of form most new) (Learned n) (seen slot)
changes form most old new n slot updates = record {
  here = seen_at new.slots n ∙ ap seen updates.changed;
  others = others;
  form = refl;
  most = refl;
}
  where
    others : (other : ConstraintId) → other ≢ Learned n → constraint (view_of form most new) other ≡ constraint (view_of form most old) other
    others (Original m) differs = refl
    others (Learned m) differs = seen_at new.slots m ∙ ap seen (updates.others m (λ e. differs (ap (λ k. Learned k) e))) ∙ sym (seen_at old.slots m)

-- room for one more comes before it
pub added_at : (form : Formula) (most : ℕ) (before middle after : Slab LearnedConstraint) (n : ℕ) (stored : LearnedConstraint) (ls : List Lit) → middle ≡ record before { capacity = middle.capacity }
    → Updates middle after n (Some stored) → stored.literals.items ≡ ls
    → ChangesAt (view_of form most before) (view_of form most after) (Learned n) (Some (record { kind = stored.kind; literals = ls }))
added_at form most before middle after n stored ls room updates same =
    subst (λ (v : Constraints). ChangesAt v (view_of form most after) (Learned n) (Some (record { kind = stored.kind; literals = ls }))) (ap (λ (l : Slab LearnedConstraint). view_of form most l) room)
    (subst (λ (k : List Lit). ChangesAt (view_of form most middle) (view_of form most after) (Learned n) (Some (record { kind = stored.kind; literals = k }))) same (changes form most middle after n (Some stored) updates))

pub free_at : (form : Formula) (most : ℕ) (before middle : Slab LearnedConstraint) (n : ℕ) → middle ≡ record before { capacity = middle.capacity } → get middle n ≡ None → constraint (view_of form most before) (Learned n) ≡ None
free_at form most before middle n room free = seen_at before.slots n ∙ ap seen (sym (ap (λ (l : Slab LearnedConstraint). get l n) room) ∙ free)

pub one_more : (form : Formula) (most : ℕ) (before middle after : Slab LearnedConstraint) → middle ≡ record before { capacity = middle.capacity } → slab_len after ≡ slab_len middle + 1
    → learned_count (view_of form most after) ≡ learned_count (view_of form most before) + 1
one_more form most before middle after room more =
    seen_count after.slots ∙ more ∙ ap (λ n. n + 1) (ap (λ (l : Slab LearnedConstraint). slab_len l) room ∙ sym (seen_count before.slots))

pub one_less : (form : Formula) (most : ℕ) (before after : Slab LearnedConstraint) → slab_len after + 1 ≡ slab_len before → learned_count (view_of form most after) + 1 ≡ learned_count (view_of form most before)
one_less form most before after less = ap (λ n. n + 1) (seen_count after.slots) ∙ less ∙ sym (seen_count before.slots)

-- ---- fine constraints

pub stay_fine : (old new : Constraints) (id : ConstraintId) (c : Option Constraint) → AreFine old → ChangesAt old new id c
    → ((x : Constraint) → c ≡ Some x → IsFine x.kind old.form x.literals) → AreFine new
stay_fine old new id c fine change here other x is = elim (cases_Bool (same_id other id)) [
  | inl same ↦ at_new x (here x (sym change.here ∙ ap (λ i. constraint new i) (sym (ids_same other id same)) ∙ is))
  | inr differs ↦ at_new x (fine other x (sym (change.others other (ids_differ other id differs)) ∙ is))
]
  where
    at_new : (x : Constraint) → IsFine x.kind old.form x.literals → IsFine x.kind new.form x.literals
    at_new x h = subst (λ (f : Formula). IsFine x.kind f x.literals) (sym change.form) h

-- ---- rows

abbrev in_literals : Option Constraint → Lit → Bool
in_literals c l = option_map_or (λ x. has_literal x.literals l) c false

come : (h : Bool) → 0 + (if h && true then 1 else 0) ≡ (if h then 1 else 0)
come true = refl
come false = refl

stay : (n : ℕ) (h : Bool) → n + (if h && false then 1 else 0) ≡ n
stay n true = omega arith
stay n false = omega arith

go : (h : Bool) → (if h then 1 else 0) - (if h && true then 1 else 0) ≡ 0
go true = refl
go false = refl

stay_left : (n : ℕ) (h : Bool) → n - (if h && false then 1 else 0) ≡ n
stay_left n true = omega arith
stay_left n false = omega arith

pub rows_come : (old new : Constraints) (rows next : Rows) (id : ConstraintId) (c : Constraint) → RowsHold old rows → constraint old id ≡ None → constraint new id ≡ Some c
    → ((other : ConstraintId) → other ≢ id → constraint new other ≡ constraint old other) → new.form.prefix ≡ old.form.prefix
    → ((l : Lit) (x : ConstraintId) → times x (row next (row_of old.form.prefix l)) ≡ times x (row rows (row_of old.form.prefix l)) + entered c.literals id l x)
    → RowsHold new next
rows_come old new rows next id c hold free there others prefix steps l x =
    ap (λ p. times x (row next (row_of p l))) prefix ∙ steps l x ∙ ap (λ n. n + entered c.literals id l x) (hold l x) ∙ elim (cases_Bool (same_id x id)) [
      | inl same ↦ rw (same, ap (λ i. in_literals (constraint old i) l) (ids_same x id same) ∙ ap (λ k. in_literals k l) free, ap (λ i. in_literals (constraint new i) l) (ids_same x id same) ∙ ap (λ k. in_literals k l) there)
          (come (has_literal c.literals l))
      | inr differs ↦ rw (differs, ap (λ k. in_literals k l) (others x (ids_differ x id differs))) (stay (if holds old l x then 1 else 0) (has_literal c.literals l))
    ]

pub rows_go : (old new : Constraints) (rows next : Rows) (id : ConstraintId) (c : Constraint) → RowsHold old rows → constraint old id ≡ Some c → ChangesAt old new id None
    → ((l : Lit) (x : ConstraintId) → times x (row next (row_of old.form.prefix l)) ≡ times x (row rows (row_of old.form.prefix l)) - entered c.literals id l x)
    → RowsHold new next
rows_go old new rows next id c hold live change steps l x =
    ap (λ (f : Formula). times x (row next (row_of f.prefix l))) change.form ∙ steps l x ∙ ap (λ n. n - entered c.literals id l x) (hold l x) ∙ elim (cases_Bool (same_id x id)) [
      | inl same ↦ rw (same, ap (λ i. in_literals (constraint old i) l) (ids_same x id same) ∙ ap (λ k. in_literals k l) live, ap (λ i. in_literals (constraint new i) l) (ids_same x id same) ∙ ap (λ k. in_literals k l) change.here)
          (go (has_literal c.literals l))
      | inr differs ↦ rw (differs, ap (λ k. in_literals k l) (change.others x (ids_differ x id differs))) (stay_left (if holds old l x then 1 else 0) (has_literal c.literals l))
    ]

-- ---- all that a store keeps

pub fine_fits : (k : Kind) (f : Formula) (ls : List Lit) → IsFine k f ls → FitsPrefix f.prefix ls
fine_fits Clause f ls h = h.fits
fine_fits Cube f ls h = h.fits

-- rows in other places
pub moved : (old new : Constraints) (rows next : Rows) → KeepsConstraints old rows → new ≡ old → length next ≡ length rows → ((n : ℕ) → row next n ≡ row rows n) → KeepsConstraints new next
moved old new rows next keeps same count each = rw same (record {
  fine = keeps.fine;
  few = keeps.few;
  count = count ∙ keeps.count;
  held = λ l id. ap (λ ids. times id ids) (each (row_of old.form.prefix l)) ∙ keeps.held l id;
})

pub with_constraint : (old new : Constraints) (rows next : Rows) (id : ConstraintId) (c : Constraint) → KeepsConstraints old rows → constraint old id ≡ None → ChangesAt old new id (Some c)
    → IsFine c.kind old.form c.literals → learned_count old < old.most → learned_count new ≡ learned_count old + 1 → length next ≡ length rows
    → ((l : Lit) (x : ConstraintId) → times x (row next (row_of old.form.prefix l)) ≡ times x (row rows (row_of old.form.prefix l)) + entered c.literals id l x)
    → KeepsConstraints new next
with_constraint old new rows next id c keeps free change fine room more count steps = record {
  fine = stay_fine old new id (Some c) keeps.fine change (λ x is. subst (λ (y : Constraint). IsFine y.kind old.form y.literals) (same_Some c x is) fine);
  few = (let most = change.most in omega arith);
  count = count ∙ keeps.count ∙ sym (ap (λ (f : Formula). row_count f.prefix) change.form);
  held = rows_come old new rows next id c keeps.held free change.here change.others (ap (λ (f : Formula). f.prefix) change.form) steps;
}

pub without_constraint : (old new : Constraints) (rows next : Rows) (id : ConstraintId) (c : Constraint) → KeepsConstraints old rows → constraint old id ≡ Some c → ChangesAt old new id None
    → learned_count new + 1 ≡ learned_count old → length next ≡ length rows
    → ((l : Lit) (x : ConstraintId) → times x (row next (row_of old.form.prefix l)) ≡ times x (row rows (row_of old.form.prefix l)) - entered c.literals id l x)
    → KeepsConstraints new next
without_constraint old new rows next id c keeps live change less count steps = record {
  fine = stay_fine old new id None keeps.fine change (λ x is. absurd (none-some x is));
  few = (let most = change.most in let few = keeps.few in omega arith);
  count = count ∙ keeps.count ∙ sym (ap (λ (f : Formula). row_count f.prefix) change.form);
  held = rows_go old new rows next id c keeps.held live change steps;
}
