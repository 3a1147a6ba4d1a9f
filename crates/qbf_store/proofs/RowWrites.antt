-- What a write to one row leaves in all of them.
use Rattle.std.proofs.Common.{◌≡◌, ◌≢◌, ℕ, zero, suc, ◌+◌, ◌-◌, ◌<◌, ◌≤◌, Bool, ◌&&◌, [], ◌∷◌, ◌++◌, length, set, get_or, slice_get, Some, inl, inr, refl, sym, ap, subst, ◌∙◌, arith, eq-eqb, ne_eqb, Vec, Global, vec_len, vec_capacity, if◌then◌else◌}
use Rattle.std.specs.Prelude.{◌==◌}
use Rattle.std.specs.List.{swap_remove}
use Rattle.std.proofs.lemmas.Bool.{cases_Bool, cases_eq}
use Rattle.std.proofs.lemmas.List.Sums.{sum_by_push, sum_by-swap_remove}
use Rattle.std.proofs.lemmas.Option.{slice_get_within, get_or_from_slice_get}
use Rattle.qbf_store.specs.declared.constraint.ConstraintId.{ConstraintId}
use Rattle.qbf_store.specs.Constraints.{same_id, times}
use Rattle.qbf_store.specs.Rows.{Rows, row, HasRoom}
use Rattle.qbf_store.proofs.Ids.{ids_same}

pub row_is : (rows : Rows) (n : ℕ) (d : Vec ConstraintId Global) → n < length rows → (get_or rows n d).items ≡ row rows n
row_is [] n d h = absurd (omega arith)
row_is (r ∷ rows) zero d h = refl
row_is (r ∷ rows) (suc n) d h = row_is rows n d (omega arith)

pub row_set : (rows : Rows) (n : ℕ) (r : Vec ConstraintId Global) → n < length rows → row (set rows n r) n ≡ r.items
row_set [] n r h = absurd (omega arith)
row_set (q ∷ rows) zero r h = refl
row_set (q ∷ rows) (suc n) r h = row_set rows n r (omega arith)

pub row_other : (rows : Rows) (n m : ℕ) (r : Vec ConstraintId Global) → m ≢ n → row (set rows n r) m ≡ row rows m
row_other [] n m r h = refl
row_other (q ∷ rows) zero zero r h = absurd (h refl)
row_other (q ∷ rows) zero (suc m) r h = refl
row_other (q ∷ rows) (suc n) zero r h = refl
row_other (q ∷ rows) (suc n) (suc m) r h = row_other rows n m r (λ e. h (ap suc e))

pub room_is : (rows : Rows) (n : ℕ) (d : Vec ConstraintId Global) → HasRoom rows n → vec_len (get_or rows n d) < vec_capacity (get_or rows n d)
room_is [] n d h = absurd h
room_is (r ∷ rows) zero d h = h
room_is (r ∷ rows) (suc n) d h = room_is rows n d h

pub room_set : (rows : Rows) (n : ℕ) (r : Vec ConstraintId Global) → n < length rows → vec_len r < vec_capacity r → HasRoom (set rows n r) n
room_set [] n r h room = absurd (omega arith)
room_set (q ∷ rows) zero r h room = room
room_set (q ∷ rows) (suc n) r h room = room_set rows n r (omega arith) room

pub room_other : (rows : Rows) (n m : ℕ) (r : Vec ConstraintId Global) → m ≢ n → HasRoom rows m → HasRoom (set rows n r) m
room_other [] n m r h room = absurd room
room_other (q ∷ rows) zero zero r h room = absurd (h refl)
room_other (q ∷ rows) zero (suc m) r h room = room
room_other (q ∷ rows) (suc n) zero r h room = room
room_other (q ∷ rows) (suc n) (suc m) r h room = room_other rows n m r (λ e. h (ap suc e)) room

-- ---- a row that is written

pub kept_rows : (rows : Rows) (number : ℕ) (d r : Vec ConstraintId Global) → number < length rows → r.items ≡ (get_or rows number d).items → (n : ℕ) → row (set rows number r) n ≡ row rows n
kept_rows rows number d r within same n = elim (cases_eq n number) [
  | inl here ↦ rw here (row_set rows number r within ∙ same ∙ row_is rows number d within)
  | inr other ↦ row_other rows number n r other
]

pub kept_room : (rows : Rows) (number : ℕ) (d r : Vec ConstraintId Global) → number < length rows → vec_len r ≡ vec_len (get_or rows number d) → vec_capacity (get_or rows number d) ≤ vec_capacity r
    → (n : ℕ) → HasRoom rows n → HasRoom (set rows number r) n
kept_room rows number d r within same more n room = elim (cases_eq n number) [
  | inl here ↦ subst (λ k. HasRoom (set rows number r) k) (sym here) (room_set rows number r within (let old = room_is rows number d (subst (λ k. HasRoom rows k) here room) in omega arith))
  | inr other ↦ room_other rows number n r other room
]

abbrev number_of : Bool → ℕ
number_of b = if b then 1 else 0

pub entered_row : (rows : Rows) (number : ℕ) (d r : Vec ConstraintId Global) (id : ConstraintId) → number < length rows → r.items ≡ (get_or rows number d).items ++ id ∷ []
    → (n : ℕ) (x : ConstraintId) → times x (row (set rows number r) n) ≡ times x (row rows n) + (if n == number && same_id x id then 1 else 0)
entered_row rows number d r id within more n x = elim (cases_eq n number) [
  | inl here ↦ rw (here, eq-eqb number number refl)
      (ap (λ ids. times x ids) (row_set rows number r within ∙ more) ∙ sum_by_push (λ y. number_of (same_id x y)) (get_or rows number d).items id ∙ ap (λ ids. times x ids + number_of (same_id x id)) (row_is rows number d within))
  | inr other ↦ rw (ne_eqb n number other) (ap (λ ids. times x ids) (row_other rows number n r other) ∙ (omega arith))
]

pub left_row : (rows : Rows) (number place : ℕ) (d r : Vec ConstraintId Global) (id e : ConstraintId) → number < length rows → slice_get (get_or rows number d).items place ≡ Some id
    → r.items ≡ swap_remove (get_or rows number d).items place e
    → (n : ℕ) (x : ConstraintId) → times x (row (set rows number r) n) ≡ times x (row rows n) - (if n == number && same_id x id then 1 else 0)
left_row rows number place d r id e within there less n x = elim (cases_eq n number) [
  | inl here ↦ rw (here, eq-eqb number number refl)
      (let sum = sum_by-swap_remove (λ y. number_of (same_id x y)) (get_or rows number d).items place e (slice_get_within (get_or rows number d).items place id there) in
      let is = ap (λ y. number_of (same_id x y)) (get_or_from_slice_get (get_or rows number d).items place id e there) in
      let new = ap (λ ids. times x ids) (row_set rows number r within ∙ less) in
      let old = ap (λ ids. times x ids) (row_is rows number d within) in
      omega arith)
  | inr other ↦ rw (ne_eqb n number other) (ap (λ ids. times x ids) (row_other rows number n r other) ∙ (omega arith))
]

pub absent_row : (rows : Rows) (number : ℕ) (d : Vec ConstraintId Global) (id : ConstraintId) → number < length rows → times id (get_or rows number d).items ≡ 0
    → (n : ℕ) (x : ConstraintId) → times x (row rows n) ≡ times x (row rows n) - (if n == number && same_id x id then 1 else 0)
absent_row rows number d id within none n x = elim (cases_eq n number) [
  | inl here ↦ elim (cases_Bool (same_id x id)) [
    | inl same ↦ rw (here, eq-eqb number number refl, same) (let nothing = ap (λ y. times y (row rows number)) (ids_same x id same) ∙ ap (λ ids. times id ids) (sym (row_is rows number d within)) ∙ none in omega arith)
    | inr differs ↦ rw (here, eq-eqb number number refl, differs) (omega arith)
  ]
  | inr other ↦ rw (ne_eqb n number other) (omega arith)
]

pub empty_push : (rows : Rows) (r : Vec ConstraintId Global) → ((n : ℕ) → row rows n ≡ []) → r.items ≡ [] → (n : ℕ) → row (rows ++ r ∷ []) n ≡ []
empty_push [] r empty new zero = new
empty_push [] r empty new (suc n) = refl
empty_push (q ∷ rows) r empty new zero = empty 0
empty_push (q ∷ rows) r empty new (suc n) = empty_push rows r (λ k. empty (suc k)) new n
