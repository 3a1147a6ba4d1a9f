-- A tree in preorder is linked.
use Rattle.std.proofs.Common.{◌≡◌, ◌≢◌, ℕ, zero, suc, ◌+◌, ◌-◌, ◌<◌, ◌≤◌, Bool, true, false, ◌&&◌, ◌||◌, List, [], ◌∷◌, ◌++◌, map, length, refl, sym, ap, ◌∙◌, arith, ◌⊎◌, inl, inr}
use Rattle.std.specs.Prelude.{◌==◌, nat_lt, nat_le}
use Rattle.std.specs.List.{list_any, list_all, range_with_len}
use Rattle.std.proofs.lemmas.Bool.Decides.{nat_tests}
use Rattle.bddl_model.specs.declared.certificate.Answered.{Answered}
use Rattle.bddl_model.specs.CertificateGraph.{Links, Naming, naming_of, named_by, namings_from, is_later, is_named, linked, preorder_from, preorder}
use Rattle.bddl_model.proofs.PlaceTests.{both, together, equal_numbers}
use Rattle.bddl_model.proofs.FirstNamings.{all_split}

abbrev nexts : List Answered → List ℕ
nexts all = map (λ a. a.next.0) all

-- numbers from low up to below high
abbrev within : ℕ → ℕ → ℕ → Bool
within low high m = nat_le low m && nat_lt m high

all_dues : (p : ℕ → Bool) (xs ys : List ℕ) → list_all p (xs ++ ys) ≡ true → (list_all p xs ≡ true) × (list_all p ys ≡ true)
all_dues p [] ys h = (refl, h)
all_dues p (x ∷ xs) ys h =
    let u = both (p x) (list_all p (xs ++ ys)) h in
    let v = all_dues p xs ys u.1 in
    (together (p x) (list_all p xs) u.0 v.0, v.1)

higher : (low high : ℕ) (ds : List ℕ) → list_all (within (suc low) high) ds ≡ true → list_all (within low high) ds ≡ true
higher low high [] h = refl
higher low high (d ∷ ds) h =
    let u = both (within (suc low) high d) (list_all (within (suc low) high) ds) h in
    let v = both (nat_le (suc low) d) (nat_lt d high) u.0 in
    together (within low high d) _ (together (nat_le low d) (nat_lt d high) (less d v.0) v.1) (higher low high ds u.1)
  where
    less : (d : ℕ) → nat_le (suc low) d ≡ true → nat_le low d ≡ true
    less d h = grind (arith, nat_tests)

-- the nodes that are due stand among those that follow
pub dues_follow : (high n : ℕ) (dues : List ℕ) (rest : Links) → n + length rest ≡ high → preorder_from n dues rest ≡ true → list_all (within n high) dues ≡ true
dues_follow high n [] [] e h = refl
dues_follow high n [] (own ∷ rest) e h = absurd cc
dues_follow high n (due ∷ dues) [] e h = absurd cc
dues_follow high n (due ∷ dues) (own ∷ rest) e h =
    let u = both (due == n) (preorder_from (suc n) (nexts own ++ dues) rest) h in
    let deeper = dues_follow high (suc n) (nexts own ++ dues) rest (omega arith) u.1 in
    let same = equal_numbers due n u.0 in
    together (within n high due) _ (together (nat_le n due) (nat_lt due high) (at_least due same) (below due same)) (higher n high dues (all_dues (within (suc n) high) (nexts own) dues deeper).1)
  where
    at_least : (d : ℕ) → d ≡ n → nat_le n d ≡ true
    at_least d h = grind (arith, nat_tests)

    below : (d : ℕ) → d ≡ n → nat_lt d high ≡ true
    below d h = grind (arith, nat_tests)

named_later : (high n : ℕ) (all : List Answered) → list_all (within (suc n) high) (nexts all) ≡ true → list_all (is_later high) (named_by n all) ≡ true
named_later high n [] h = refl
named_later high n (a ∷ all) h =
    let u = both (within (suc n) high a.next.0) (list_all (within (suc n) high) (nexts all)) h in
    let v = both (nat_le (suc n) a.next.0) (nat_lt a.next.0 high) u.0 in
    together (is_later high (naming_of n a)) _ (together (nat_lt n a.next.0) (nat_lt a.next.0 high) (more a.next.0 v.0) v.1) (named_later high n all u.1)
  where
    more : (d : ℕ) → nat_le (suc n) d ≡ true → nat_lt n d ≡ true
    more d h = grind (arith, nat_tests)

all_later : (high n : ℕ) (dues : List ℕ) (rest : Links) → n + length rest ≡ high → preorder_from n dues rest ≡ true → list_all (is_later high) (namings_from n rest) ≡ true
all_later high n [] [] e h = refl
all_later high n [] (own ∷ rest) e h = absurd cc
all_later high n (due ∷ dues) [] e h = absurd cc
all_later high n (due ∷ dues) (own ∷ rest) e h =
    let u = both (due == n) (preorder_from (suc n) (nexts own ++ dues) rest) h in
    let deeper = dues_follow high (suc n) (nexts own ++ dues) rest (omega arith) u.1 in
    all_split (is_later high) (named_by n own) (namings_from (suc n) rest) ∙ together _ _ (named_later high n own (all_dues (within (suc n) high) (nexts own) dues deeper).0) (all_later high (suc n) (nexts own ++ dues) rest (omega arith) u.1)

any_split : {A : Type 0} (p : A → Bool) (xs ys : List A) → list_any p (xs ++ ys) ≡ (list_any p xs || list_any p ys)
any_split p [] ys = refl
any_split p (x ∷ xs) ys = by (p x) (any_split p xs ys)
  where
    by : (b : Bool) → list_any p (xs ++ ys) ≡ (list_any p xs || list_any p ys) → (b || list_any p (xs ++ ys)) ≡ ((b || list_any p xs) || list_any p ys)
    by true e = refl
    by false e = e

is_due : (m n : ℕ) (all : List Answered) → list_any (λ d. d == m) (nexts all) ≡ list_any (λ w. w.to == m) (named_by n all)
is_due m n [] = refl
is_due m n (a ∷ all) = ap (λ b. (a.next.0 == m) || b) (is_due m n all)

either : (a b : Bool) → (a || b) ≡ true → (a ≡ true) ⊎ (b ≡ true)
either true b h = inl refl
either false b h = inr h

or_left : (a b : Bool) → a ≡ true → (a || b) ≡ true
or_left a b h = rw h refl

or_right : (a b : Bool) → b ≡ true → (a || b) ≡ true
or_right true b h = refl
or_right false b h = h

-- each node that follows is due or named
due_or_named : (m n : ℕ) (dues : List ℕ) (rest : Links) → n ≤ m → m < n + length rest → preorder_from n dues rest ≡ true → (list_any (λ d. d == m) dues || list_any (λ w. w.to == m) (namings_from n rest)) ≡ true
due_or_named m n [] [] le lt h = absurd (omega arith)
due_or_named m n [] (own ∷ rest) le lt h = absurd cc
due_or_named m n (due ∷ dues) [] le lt h = absurd cc
due_or_named m n (due ∷ dues) (own ∷ rest) le lt h =
    let u = both (due == n) (preorder_from (suc n) (nexts own ++ dues) rest) h in
    by (due == m) refl (equal_numbers due n u.0) (λ below. due_or_named m (suc n) (nexts own ++ dues) rest below (omega arith) u.1)
  where
    regroup : (a b c d : Bool) → ((a || b) || c) ≡ true → a ≡ d → (b || (d || c)) ≡ true
    regroup true b c d h e = rw (sym e) (or_right b true refl)
    regroup false true c d h e = refl
    regroup false false c d h e = rw (sym e) h

    by : (b : Bool) → (due == m) ≡ b → due ≡ n → (suc n ≤ m → (list_any (λ d. d == m) (nexts own ++ dues) || list_any (λ w. w.to == m) (namings_from (suc n) rest)) ≡ true)
        → ((b || list_any (λ d. d == m) dues) || list_any (λ w. w.to == m) (named_by n own ++ namings_from (suc n) rest)) ≡ true
    by true e f deeper = refl
    by false e f deeper =
        let below : suc n ≤ m = (let other = differ due m e in omega arith) in
        let split = any_split (λ d. d == m) (nexts own) dues in
        let named = any_split (λ (w : Naming). w.to == m) (named_by n own) (namings_from (suc n) rest) in
        let all : ((list_any (λ d. d == m) (nexts own) || list_any (λ d. d == m) dues) || list_any (λ w. w.to == m) (namings_from (suc n) rest)) ≡ true = ap (λ b. b || list_any (λ w. w.to == m) (namings_from (suc n) rest)) (sym split) ∙ deeper below in
        ap (λ b. list_any (λ d. d == m) dues || b) named ∙ regroup _ _ _ _ all (is_due m n own)
      where
        differ : (i j : ℕ) → (i == j) ≡ false → i ≢ j
        differ i j h = grind (arith, nat_tests)

not_start : (k : ℕ) → 1 ≤ k → (0 == k) ≡ false
not_start k one = grind (arith, nat_tests)

drop_due : (b c : Bool) → b ≡ false → ((b || false) || c) ≡ true → c ≡ true
drop_due true c e h = absurd cc
drop_due false c e h = h

all_named : (ls : Links) (from k : ℕ) → 1 ≤ from → from + k ≤ length ls → preorder ls ≡ true → list_all (is_named ls) (range_with_len from k) ≡ true
unfolding preorder
all_named ls from zero one lt h = refl
all_named ls from (suc k) one lt h =
    together (is_named ls from) _ (drop_due (0 == from) _ (not_start from one) (due_or_named from 0 (0 ∷ []) ls (omega arith) (omega arith) h)) (all_named ls (from + 1) k (omega arith) (omega arith) h)

pub preorder_linked : (ls : Links) → preorder ls ≡ true → linked ls ≡ true
unfolding preorder linked
preorder_linked [] h = absurd cc
preorder_linked (own ∷ rest) h =
    let some : nat_lt 0 (length (own ∷ rest)) ≡ true = grind (arith, nat_tests) in
    together (nat_lt 0 (length (own ∷ rest))) _ some
    (together _ _ (all_later (length (own ∷ rest)) 0 (0 ∷ []) (own ∷ rest) (omega arith) h) (all_named (own ∷ rest) 1 (length (own ∷ rest) - 1) (omega arith) (omega arith) h))
