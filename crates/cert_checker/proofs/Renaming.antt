-- Answers that are renamed one after the other, by numbers that are put in an order.
use Rattle.std.proofs.Common.{◌≡◌, ℕ, zero, suc, ◌+◌, ◌<◌, ◌≤◌, Bool, true, false, ◌||◌, List, [], ◌∷◌, ◌++◌, length, map, slice_get, take, Some, inl, inr, ⊎_elim, nat_eq, if◌then◌else◌, refl, sym, ap, ap₂, ◌∙◌, subst, arith, append_assoc, eq-eqb, eqb-true}
use Rattle.std.specs.List.{list_any, slice_index_or}
use Rattle.std.proofs.lemmas.Bool.{cases_lt, false≢true, or_left, or_right}
use Rattle.std.proofs.lemmas.List.{append-nil, take_more}
use Rattle.indexmap.specs.IndexSet.{insert_key}
use Rattle.bddl_model.specs.declared.certificate.Answered.{Answered}
use Rattle.bddl_laws.proofs.BreadthFirst.{slice_get-append, snoc_cases}
use Rattle.cert_checker.specs.Sharing.{IsRenamed, AreRenamed}

-- ---- a number in a list

pub any_there : (k : ℕ) (xs : List ℕ) (n : ℕ) → slice_get xs n ≡ Some k → list_any (nat_eq k) xs ≡ true
any_there k [] n h = absurd cc
any_there k (x ∷ xs) zero h = or_left (nat_eq k x) (list_any (nat_eq k) xs) (eq-eqb k x (let e : x ≡ k = cc in sym e))
any_there k (x ∷ xs) (suc n) h = or_right (nat_eq k x) (list_any (nat_eq k) xs) (any_there k xs n h)

pub there_any : (k : ℕ) (xs : List ℕ) → list_any (nat_eq k) xs ≡ true → (n : ℕ) × (slice_get xs n ≡ Some k)
there_any k [] h = absurd cc
there_any k (x ∷ xs) h = by (nat_eq k x) refl h (there_any k xs)
  where
    by : (b : Bool) → nat_eq k x ≡ b → (b || list_any (nat_eq k) xs) ≡ true → (list_any (nat_eq k) xs ≡ true → (n : ℕ) × (slice_get xs n ≡ Some k)) → (n : ℕ) × (slice_get (x ∷ xs) n ≡ Some k)
    by true e i f = (0, ap (λ y. Some y) (sym (eqb-true k x e)))
    by false e i f = (suc (f i).0, (f i).1)

-- ---- a number is put in the order

module _ (before : List ℕ) (k : ℕ) (after : List ℕ) (n : ℕ) (put : after ≡ insert_key nat_eq before k) (here : slice_get after n ≡ Some k) (within : n < length after) where
  is_known : after ≡ before ++ k ∷ [] → n < length before → slice_get before n ≡ Some k
  is_known grown low = ⊎_elim (λ there. there) (λ last. absurd (omega (arith, low, last.0))) (snoc_cases before k k n (rw grown at here))

  pub put_met : n < length before → after ≡ before
  put_met low = by (list_any (nat_eq k) before) refl put
    where
      by : (b : Bool) → list_any (nat_eq k) before ≡ b → after ≡ (if b then before else before ++ k ∷ []) → after ≡ before
      by true a e = e
      by false a e = absurd (false≢true (sym a ∙ any_there k before n (is_known e low)))

  pub put_next : length before ≤ n → after ≡ before ++ k ∷ []
  put_next high = by (list_any (nat_eq k) before) refl put
    where
      by : (b : Bool) → list_any (nat_eq k) before ≡ b → after ≡ (if b then before else before ++ k ∷ []) → after ≡ before ++ k ∷ []
      by true a e = absurd (omega (arith, high, within, ap length e))
      by false a e = e

-- ---- one answer more

pub one_more : (least : List ℕ) (all bs : List Answered) (a b : Answered) (before mid after : List ℕ) → AreRenamed least all bs before mid → IsRenamed least a b mid after → AreRenamed least (all ++ a ∷ []) (bs ++ b ∷ []) before after
one_more least [] [] a b before mid after are is = (after, subst (λ order. IsRenamed least a b order after) are is, refl)
one_more least [] (c ∷ bs) a b before mid after are is = absurd are
one_more least (c ∷ all) [] a b before mid after are is = absurd are
one_more least (c ∷ all) (d ∷ bs) a b before mid after (next, first, are) is = (next, first, one_more least all bs a b next mid after are is)

-- the same of the replies up to one
pub reply_more : (least : List ℕ) (replies bs grown : List Answered) (i : ℕ) (b d : Answered) (before mid after : List ℕ) → i < length replies → AreRenamed least (take i replies) bs before mid → IsRenamed least (slice_index_or replies i d) b mid after → grown ≡ bs ++ b ∷ []
    → AreRenamed least (take (i + 1) replies) grown before after
reply_more least replies bs grown i b d before mid after lt are is whole =
    subst (λ all. AreRenamed least all grown before after) (sym (take_more replies i d lt))
    (subst (λ cs. AreRenamed least (take i replies ++ slice_index_or replies i d ∷ []) cs before after) (sym whole)
    (one_more least (take i replies) bs (slice_index_or replies i d) b before mid after are is))

-- ---- what renaming keeps

pub same_moves : (least : List ℕ) (all bs : List Answered) (before after : List ℕ) → AreRenamed least all bs before after → map (λ a. a.mv) bs ≡ map (λ a. a.mv) all
same_moves least [] [] before after are = refl
same_moves least [] (b ∷ bs) before after are = absurd are
same_moves least (a ∷ all) [] before after are = absurd are
same_moves least (a ∷ all) (b ∷ bs) before after (mid, is, are) = ap₂ (λ m ms. m ∷ ms) is.mv (same_moves least all bs mid after are)

one_extends : (least : List ℕ) (a b : Answered) (before after : List ℕ) → IsRenamed least a b before after → (more : List ℕ) × (after ≡ before ++ more)
one_extends least a b before after is = elim (cases_lt b.next.0 (length before)) [
  | inl low ↦ ([], is.met low ∙ sym (append-nil before))
  | inr high ↦ (slice_index_or least a.next.0 0 ∷ [], is.next high)
]

all_extend : (least : List ℕ) (all bs : List Answered) (before after : List ℕ) → AreRenamed least all bs before after → (more : List ℕ) × (after ≡ before ++ more)
all_extend least [] [] before after are = ([], are ∙ sym (append-nil before))
all_extend least [] (b ∷ bs) before after are = absurd are
all_extend least (a ∷ all) [] before after are = absurd are
all_extend least (a ∷ all) (b ∷ bs) before after (mid, is, are) =
    let first = one_extends least a b before mid is in
    let later = all_extend least all bs mid after are in
    (first.0 ++ later.0, later.1 ∙ ap (λ xs. xs ++ later.0) first.1 ∙ append_assoc before first.0 later.0)

-- what was in the order stays there
pub number_stays : (least : List ℕ) (all bs : List Answered) (before after : List ℕ) (m k : ℕ) → AreRenamed least all bs before after → slice_get before m ≡ Some k → slice_get after m ≡ Some k
number_stays least all bs before after m k are found = let more = all_extend least all bs before after are in rw more.1 (slice_get-append before more.0 m k found)
