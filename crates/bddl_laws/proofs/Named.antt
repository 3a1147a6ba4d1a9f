-- The namings of linked nodes, one by one.
use Rattle.std.proofs.Common.{◌≡◌, ℕ, zero, suc, ◌+◌, ◌-◌, ◌<◌, ◌≤◌, Bool, true, false, ◌||◌, List, [], ◌∷◌, length, slice_get, Some, refl, sym, subst, arith}
use Rattle.std.specs.Prelude.{◌==◌, nat_lt, Contains, if◌then◌else◌}
use Rattle.std.specs.List.{list_all, list_any, range_with_len}
use Rattle.std.proofs.lemmas.Bool.{and_parts}
use Rattle.std.proofs.lemmas.Bool.Decides.{nat_tests}
use Rattle.std.proofs.lemmas.List.Elements.{Contains-append_left, Contains-append_right, All-contains}
use Rattle.std.proofs.lemmas.List.Sums.{AllPass-from_list_all}
use Rattle.bddl_model.specs.declared.certificate.Answered.{Answered}
use Rattle.bddl_model.specs.CertificateGraph.{Links, Naming, naming_of, named_by, namings_from, namings, first_naming, is_later, is_named, linked}
use Rattle.bddl_model.proofs.PlaceTests.{both, equal_numbers}
use Rattle.bddl_model.proofs.FirstNamings.{later_is, place_named}
use Rattle.bddl_model.specs.Setup.{Setup}
use Rattle.bddl_model.specs.Certificate.{place, behind}

-- ---- namings of answers

pub head_in : {X : Type 0} (x : X) (xs : List X) → Contains (x ∷ xs) x
head_in x xs = (0, omega arith, refl)

pub tail_in : {X : Type 0} (y x : X) (xs : List X) → Contains xs x → Contains (y ∷ xs) x
tail_in y x xs (k, low, here) = (suc k, omega (arith, low), here)

-- an answer of a node is one of the namings
pub answer_names : (ls : Links) (n k : ℕ) (all : List Answered) (a : Answered) → slice_get ls k ≡ Some all → Contains all a → Contains (namings_from n ls) (naming_of (n + k) a)
answer_names [] n k all a h c = absurd cc
answer_names (own ∷ ls) n zero all a h c =
    let e : own ≡ all = cc in
    let z : n + 0 ≡ n = omega arith in
    rw z (Contains-append_left (named_by n own) (namings_from (suc n) ls) (naming_of n a) (mapped n own a (subst (λ l. Contains l a) (sym e) c)))
  where
    mapped : (n : ℕ) (xs : List Answered) (a : Answered) → Contains xs a → Contains (named_by n xs) (naming_of n a)
    mapped n [] a (i, low, here) = absurd (omega (arith, low))
    mapped n (x ∷ xs) a (zero, low, here) = (let e : x ≡ a = here in subst (λ b. Contains (named_by n (x ∷ xs)) (naming_of n b)) e (head_in (naming_of n x) (named_by n xs)))
    mapped n (x ∷ xs) a (suc i, low, here) = tail_in (naming_of n x) (naming_of n a) (named_by n xs) (mapped n xs a (i, omega (arith, low), here))
answer_names (own ∷ ls) n (suc k) all a h c =
    let z : n + suc k ≡ suc n + k = omega arith in
    rw z (Contains-append_right (named_by n own) (namings_from (suc n) ls) (naming_of (suc n + k) a) (answer_names ls (suc n) k all a h c))

-- ---- the namings of linked nodes

pub record AreLinked (ls : Links) : Type 0 where
  pub some : 0 < length ls
  pub later : (w : Naming) → Contains (namings ls) w → (w.from < w.to) × (w.to < length ls)
  pub named : (m : ℕ) → 1 ≤ m → m < length ls → (w : Naming) × (first_naming m (namings ls) ≡ Some w)

all_at : (p : Naming → Bool) (ws : List Naming) (w : Naming) → list_all p ws ≡ true → Contains ws w → p w ≡ true
all_at p ws w h c = All-contains (λ v. p v ≡ true) ws w (AllPass-from_list_all p ws h) c

in_range : (p : ℕ → Bool) (from n m : ℕ) → list_all p (range_with_len from n) ≡ true → from ≤ m → m < from + n → p m ≡ true
in_range p from zero m h le lt = absurd (omega (arith, le, lt))
in_range p from (suc n) m h le lt = at (from == m) refl (λ d. in_range p (from + 1) n m (and_parts (p from) _ h).1 d (omega (arith, lt)))
  where
    at : (b : Bool) → (from == m) ≡ b → (from + 1 ≤ m → p m ≡ true) → p m ≡ true
    at true e next = subst (λ k. p k ≡ true) (equal_numbers from m e) (and_parts (p from) _ h).0
    at false e next = next (grind (arith, nat_tests, e, le))

found : (m : ℕ) (ws : List Naming) → list_any (λ w. w.to == m) ws ≡ true → (w : Naming) × (first_naming m ws ≡ Some w)
found m [] h = absurd cc
found m (w ∷ ws) h = at (w.to == m) h (found m ws)
  where
    at : (b : Bool) → (b || list_any (λ v. v.to == m) ws) ≡ true → (list_any (λ v. v.to == m) ws ≡ true → (v : Naming) × (first_naming m ws ≡ Some v)) → (v : Naming) × ((if b then Some w else first_naming m ws) ≡ Some v)
    at true h f = (w, refl)
    at false h f = f h

pub linked_namings : (ls : Links) → linked ls ≡ true → AreLinked ls
unfolding linked
linked_namings ls h =
    let u = both (nat_lt 0 (length ls)) _ h in
    let v = both (list_all (is_later (length ls)) (namings ls)) _ u.1 in
    let t = u.0 in
    let some : 0 < length ls = grind (arith, nat_tests) in
    record {
      some = some;
      later = λ w c. later_is (length ls) w (all_at (is_later (length ls)) (namings ls) w v.0 c);
      named = λ m one lt. found m (namings ls) (in_range (is_named ls) 1 (length ls - 1) m v.1 one (omega (arith, lt, some)));
    }

-- a first naming is one of the namings, and names its node
pub first_in : (m : ℕ) (ws : List Naming) (w : Naming) → first_naming m ws ≡ Some w → (w.to ≡ m) × Contains ws w
first_in m [] w h = absurd cc
first_in m (x ∷ ws) w h = at (x.to == m) refl h (first_in m ws w)
  where
    at : (b : Bool) → (x.to == m) ≡ b → (if b then Some x else first_naming m ws) ≡ Some w → (first_naming m ws ≡ Some w → (w.to ≡ m) × Contains ws w) → (w.to ≡ m) × Contains (x ∷ ws) w
    at true e i f = (let same : x ≡ w = cc in (subst (λ (v : Naming). v.to ≡ m) same (equal_numbers x.to m e), subst (λ v. Contains (x ∷ ws) v) same (head_in x ws)))
    at false e i f = ((f i).0, tail_in x w ws (f i).1)

-- a node that is named stands where its first naming leads
pub place_later : (s : Setup) (ls : Links) (m : ℕ) (w : Naming) → linked ls ≡ true → first_naming m (namings ls) ≡ Some w → place s ls m ≡ behind s.game (place s ls w.from) w.mv
unfolding linked
place_later s ls m w h e = place_named (length ls) s ls m w (both (list_all (is_later (length ls)) (namings ls)) _ (both (nat_lt 0 (length ls)) _ h).1).0 e
