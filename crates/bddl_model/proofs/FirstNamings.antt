-- First namings, and the places that they give.
use Rattle.std.proofs.Common.{◌≡◌, ℕ, zero, suc, ◌<◌, ◌≤◌, Bool, true, false, not, ◌&&◌, List, [], ◌∷◌, ◌++◌, Option, Some, None, refl, sym, ap, subst, ◌∙◌, arith}
use Rattle.std.specs.Prelude.{if◌then◌else◌, ◌==◌, nat_lt}
use Rattle.std.specs.List.{list_all}
use Rattle.std.proofs.lemmas.Bool.Decides.{nat_tests}
use Rattle.bddl_model.specs.declared.certificate.Answered.{Answered}
use Rattle.bddl_model.specs.Setup.{Setup}
use Rattle.bddl_model.specs.CertificateGraph.{Links, Naming, naming_of, named_by, namings_from, namings, first_naming, is_later}
use Rattle.bddl_model.specs.Certificate.{Place, place_back, place, start, behind, leads_to}
use Rattle.bddl_model.proofs.PlaceTests.{both, together, equal_numbers}

-- the first naming of a node names it, and has what all namings have
pub first_gives : (p : Naming → Bool) (m : ℕ) (ws : List Naming) (w : Naming) → list_all p ws ≡ true → first_naming m ws ≡ Some w → (w.to ≡ m) × (p w ≡ true)
first_gives p m [] w h e = absurd cc
first_gives p m (x ∷ ws) w h e =
    let u = both (p x) (list_all p ws) h in
    step (x.to == m) refl u.0 e (λ f. first_gives p m ws w u.1 f)
  where
    step : (b : Bool) → (x.to == m) ≡ b → p x ≡ true → (if b then Some x else first_naming m ws) ≡ Some w → (first_naming m ws ≡ Some w → (w.to ≡ m) × (p w ≡ true)) → (w.to ≡ m) × (p w ≡ true)
    step true t q f g = (let i : x ≡ w = cc in (subst (λ (v : Naming). v.to ≡ m) i (equal_numbers x.to m t), subst (λ v. p v ≡ true) i q))
    step false t q f g = g f

pub later_is : (count : ℕ) (w : Naming) → is_later count w ≡ true → (w.from < w.to) × (w.to < count)
later_is count w h =
    let u = both (nat_lt w.from w.to) (nat_lt w.to count) h in
    let t = u.0 in
    let v = u.1 in
    (grind (arith, nat_tests), grind (arith, nat_tests))

pub first_is_later : (count m : ℕ) (ws : List Naming) (w : Naming) → list_all (is_later count) ws ≡ true → first_naming m ws ≡ Some w → w.from < m
first_is_later count m ws w h e =
    let g = first_gives (is_later count) m ws w h e in
    let l = later_is count w g.1 in
    omega (arith, g.0, l.0)

-- more steps than a node's number change nothing
place_enough : (count : ℕ) (s : Setup) (ws : List Naming) → list_all (is_later count) ws ≡ true → (a b m : ℕ) → m ≤ a → m ≤ b → place_back a s ws m ≡ place_back b s ws m
place_enough count s ws h zero zero m le le2 = refl
place_enough count s ws h zero (suc b) m le le2 = at_start (first_naming m ws) refl
  where
    at_start : (o : Option Naming) → first_naming m ws ≡ o → start s ≡ elim o [ None ↦ start s | Some w ↦ behind s.game (place_back b s ws w.from) w.mv ]
    at_start None e = refl
    at_start (Some w) e = (let lt = first_is_later count m ws w h e in absurd (omega arith))
place_enough count s ws h (suc a) zero m le le2 = at_start (first_naming m ws) refl
  where
    at_start : (o : Option Naming) → first_naming m ws ≡ o → elim o [ None ↦ start s | Some w ↦ behind s.game (place_back a s ws w.from) w.mv ] ≡ start s
    at_start None e = refl
    at_start (Some w) e = (let lt = first_is_later count m ws w h e in absurd (omega arith))
place_enough count s ws h (suc a) (suc b) m le le2 = at_both (first_naming m ws) refl (λ from lt. place_enough count s ws h a b from (omega arith) (omega arith))
  where
    at_both : (o : Option Naming) → first_naming m ws ≡ o → ((from : ℕ) → from < m → place_back a s ws from ≡ place_back b s ws from)
        → elim o as (λ _. Place) [ None ↦ start s | Some w ↦ behind s.game (place_back a s ws w.from) w.mv ] ≡ elim o [ None ↦ start s | Some w ↦ behind s.game (place_back b s ws w.from) w.mv ]
    at_both None e f = refl
    at_both (Some w) e f = ap (λ p. behind s.game p w.mv) (f w.from (first_is_later count m ws w h e))

place_more : (s : Setup) (ws : List Naming) (k m : ℕ) (w : Naming) → first_naming m ws ≡ Some w → place_back (suc k) s ws m ≡ behind s.game (place_back k s ws w.from) w.mv
place_more s ws k m w e = subst (λ (o : Option Naming). elim o as (λ _. Place) [ None ↦ start s | Some v ↦ behind s.game (place_back k s ws v.from) v.mv ] ≡ behind s.game (place_back k s ws w.from) w.mv) (sym e) refl

-- a node that is named stands where its first naming leads
pub place_named : (count : ℕ) (s : Setup) (ls : Links) (m : ℕ) (w : Naming) → list_all (is_later count) (namings ls) ≡ true → first_naming m (namings ls) ≡ Some w → place s ls m ≡ behind s.game (place s ls w.from) w.mv
unfolding place
place_named count s ls zero w h e = (let lt = first_is_later count zero (namings ls) w h e in absurd (omega arith))
place_named count s ls (suc k) w h e =
    let lt = first_is_later count (suc k) (namings ls) w h e in
    place_more s (namings ls) k (suc k) w e ∙ ap (λ p. behind s.game p w.mv) (place_enough count s (namings ls) h k w.from w.from (omega arith) (omega arith))

-- any other stands at the start
pub place_unnamed : (s : Setup) (ls : Links) (m : ℕ) → first_naming m (namings ls) ≡ None → place s ls m ≡ start s
unfolding place
place_unnamed s ls zero e = refl
place_unnamed s ls (suc k) e = subst (λ (o : Option Naming). elim o as (λ _. Place) [ None ↦ start s | Some v ↦ behind s.game (place_back k s (namings ls) v.from) v.mv ] ≡ start s) (sym e) refl

abbrev pub apart : ℕ → Naming → Bool
apart m w = not (w.to == m)

apart_by : (count m n : ℕ) (all : List Answered) → m ≤ n → list_all (is_later count) (named_by n all) ≡ true → list_all (apart m) (named_by n all) ≡ true
apart_by count m n [] le h = refl
apart_by count m n (a ∷ rest) le h =
    let w : Naming = naming_of n a in
    let u = both (is_later count w) (list_all (is_later count) (named_by n rest)) h in
    let l = later_is count w u.0 in
    let e : (a.next.0 == m) ≡ false = grind (arith, nat_tests) in
    together (apart m w) (list_all (apart m) (named_by n rest)) (rw e refl) (apart_by count m n rest le u.1)

pub all_split : (p : Naming → Bool) (xs ys : List Naming) → list_all p (xs ++ ys) ≡ (list_all p xs && list_all p ys)
all_split p [] ys = refl
all_split p (x ∷ xs) ys = step (p x) (all_split p xs ys)
  where
    step : (b : Bool) → list_all p (xs ++ ys) ≡ (list_all p xs && list_all p ys) → (b && list_all p (xs ++ ys)) ≡ ((b && list_all p xs) && list_all p ys)
    step true e = e
    step false e = refl

-- nodes from the n-th on name no node up to it
pub apart_from : (count m n : ℕ) (rest : Links) → m ≤ n → list_all (is_later count) (namings_from n rest) ≡ true → list_all (apart m) (namings_from n rest) ≡ true
apart_from count m n [] le h = refl
apart_from count m n (all ∷ rest) le h =
    let u = both _ _ (sym (all_split (is_later count) (named_by n all) (namings_from (suc n) rest)) ∙ h) in
    all_split (apart m) (named_by n all) (namings_from (suc n) rest) ∙ together _ _ (apart_by count m n all le u.0) (apart_from count m (suc n) rest (omega arith) u.1)

pub apart_none : (m : ℕ) (ws : List Naming) → list_all (apart m) ws ≡ true → first_naming m ws ≡ None
apart_none m [] h = refl
apart_none m (w ∷ ws) h = step (w.to == m) (both (apart m w) (list_all (apart m) ws) h) (apart_none m ws)
  where
    step : (b : Bool) → (not b ≡ true) × (list_all (apart m) ws ≡ true) → (list_all (apart m) ws ≡ true → first_naming m ws ≡ None) → (if b then Some w else first_naming m ws) ≡ None
    step true u f = absurd cc
    step false u f = f u.1

pub apart_leads : (s : Setup) (ls : Links) (m : ℕ) (ws : List Naming) → list_all (apart m) ws ≡ true → list_all (leads_to s ls m) ws ≡ true
apart_leads s ls m [] h = refl
apart_leads s ls m (w ∷ ws) h =
    let u = both (apart m w) (list_all (apart m) ws) h in
    together (leads_to s ls m w) _ (rw u.0 refl) (apart_leads s ls m ws u.1)

pub none_apart : (m : ℕ) (ws : List Naming) → first_naming m ws ≡ None → list_all (apart m) ws ≡ true
none_apart m [] h = refl
none_apart m (w ∷ ws) h = step (w.to == m) h (none_apart m ws)
  where
    step : (b : Bool) → (if b then Some w else first_naming m ws) ≡ None → (first_naming m ws ≡ None → list_all (apart m) ws ≡ true) → (not b && list_all (apart m) ws) ≡ true
    step true e f = absurd cc
    step false e f = f e
