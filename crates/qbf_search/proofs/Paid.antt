-- The digits of a search's decisions pay for its steps.
use Rattle.std.proofs.Common.{◌≡◌, ◌⊎◌, inl, inr, ℕ, zero, suc, ◌≤◌, ◌<◌, ◌+◌, ◌-◌, Bool, true, false, not, List, [], ◌∷◌, ◌++◌, length, take, drop, set, refl, sym, ap, ◌∙◌, subst, arith}
use Rattle.std.proofs.lemmas.Bool.{cases_lt, false≢true}
use Rattle.std.proofs.lemmas.List.{map-append, length_push, length-take-le, length-map, length-set, get_or-take}
use Rattle.bddl_model.specs.TrailDigits.{steps_paid}
use Rattle.bddl_laws.proofs.TrailDigits.{push_is_paid, flip_is_paid}
use Rattle.bddl_laws.proofs.TrailDigits.{paid_below_bound}
use Rattle.bddl_model.specs.Truth.{Assignment, Formula}
use Rattle.bddl_model.specs.Bounds.{bound, before_tail}
use Rattle.qbf_search.specs.Standing.{is_open, digits_of, Stands}

pub put_paid : (places variables start used : ℕ) (decisions : List Bool) (t : Bool)
    → used ≤ start + steps_paid places variables (digits_of decisions) (length decisions)
    → used + 1 ≤ start + steps_paid places variables (digits_of (decisions ++ t ∷ [])) (length (decisions ++ t ∷ []))
put_paid places variables start used decisions t paid =
    rw (map-append not decisions (t ∷ []), length_push decisions t) (push_is_paid places variables start used (length decisions) (digits_of decisions) (not t ∷ []) paid)

split_open : (decisions : List Bool) (i : ℕ) → i < length decisions → is_open decisions i ≡ true → decisions ≡ take i decisions ++ true ∷ drop (suc i) decisions
split_open [] i lt h = absurd (omega arith)
split_open (x ∷ decisions) zero lt h = ap (λ t. t ∷ decisions) h
split_open (x ∷ decisions) (suc i) lt h = ap (λ xs. x ∷ xs) (split_open decisions i (omega arith) h)

set_last : (decisions : List Bool) (i : ℕ) → i < length decisions → set (take (suc i) decisions) i false ≡ take i decisions ++ false ∷ []
set_last [] i lt = absurd (omega arith)
set_last (x ∷ decisions) zero lt = refl
set_last (x ∷ decisions) (suc i) lt = ap (λ xs. x ∷ xs) (set_last decisions i (omega arith))

-- the last decision that is kept was open
pub flip_paid : (places variables start used i : ℕ) (decisions : List Bool)
    → i < length decisions → i < places → length decisions ≤ variables → is_open decisions i ≡ true
    → used ≤ start + steps_paid places variables (digits_of decisions) (length decisions)
    → used + 1 ≤ start + steps_paid places variables (digits_of (set (take (suc i) decisions) i false)) (suc i)
flip_paid places variables start used i decisions lt low few open_there paid =
    let front : digits_of decisions ≡ digits_of (take i decisions) ++ false ∷ digits_of (drop (suc i) decisions) = ap digits_of (split_open decisions i lt open_there) ∙ map-append not (take i decisions) (true ∷ drop (suc i) decisions) in
    let back : digits_of (set (take (suc i) decisions) i false) ≡ digits_of (take i decisions) ++ true ∷ [] = ap digits_of (set_last decisions i lt) ∙ map-append not (take i decisions) (false ∷ []) in
    let many : length (digits_of (take i decisions)) ≡ i = length-map (take i decisions) not ∙ length-take-le i decisions (omega arith) in
    subst (λ (ds : List Bool). used + 1 ≤ start + steps_paid places variables ds (suc i)) (sym back)
    (subst (λ (n : ℕ). used + 1 ≤ start + steps_paid places variables (digits_of (take i decisions) ++ true ∷ []) n) (omega arith)
    (flip_is_paid places variables start used (length decisions) i (digits_of (take i decisions)) (digits_of (drop (suc i) decisions)) (omega arith) few
    (subst (λ (ds : List Bool). used ≤ start + steps_paid places variables ds (length decisions)) front paid)))

-- the decisions up to the last open one are kept, and it is closed
pub closed_paid : (f : Formula) (before start used n : ℕ) (decisions kept closed : List Bool) (a : Assignment) → Stands f before decisions a → 0 < n → n ≤ length decisions → kept ≡ take n decisions → is_open kept (n - 1) ≡ true → closed ≡ set kept (n - 1) false
    → used ≤ start + steps_paid before (length f.prefix) (digits_of decisions) (length decisions)
    → used + 1 ≤ start + steps_paid before (length f.prefix) (digits_of closed) (length closed)
closed_paid f before start used n decisions kept closed a stands some few front open_there is paid =
    subst (λ (ds : List Bool). used + 1 ≤ start + steps_paid before (length f.prefix) (digits_of ds) (length ds)) (sym whole)
    (subst (λ (m : ℕ). used + 1 ≤ start + steps_paid before (length f.prefix) (digits_of (set (take (suc (n - 1)) decisions) (n - 1) false)) m) many
    (flip_paid before (length f.prefix) start used (n - 1) decisions (omega arith) (in_front (cases_lt (n - 1) before)) stands.within opened paid))
  where
    next : suc (n - 1) ≡ n
    next = omega arith

    opened : is_open decisions (n - 1) ≡ true
    opened = sym (get_or-take n decisions (n - 1) false (omega arith)) ∙ sym (ap (λ ds. is_open ds (n - 1)) front) ∙ open_there

    whole : closed ≡ set (take (suc (n - 1)) decisions) (n - 1) false
    whole = is ∙ ap (λ ds. set ds (n - 1) false) (front ∙ sym (ap (λ m. take m decisions) next))

    many : suc (n - 1) ≡ length (set (take (suc (n - 1)) decisions) (n - 1) false)
    many = sym (length-set (take (suc (n - 1)) decisions) (n - 1) false ∙ length-take-le (suc (n - 1)) decisions (omega arith))

    in_front : (n - 1 < before) ⊎ (before ≤ n - 1) → n - 1 < before
    in_front (inl lt) = lt
    in_front (inr low) = absurd (false≢true (sym (stands.tail (n - 1) low) ∙ opened))

pub below_bound : (f : Formula) (before start used : ℕ) (decisions : List Bool) → before ≡ before_tail f → length decisions ≤ length f.prefix
    → used ≤ start + steps_paid before (length f.prefix) (digits_of decisions) (length decisions) → used < start + bound f
below_bound f before start used decisions is few paid =
    paid_below_bound f start used (length decisions) (digits_of decisions) few
    (subst (λ (n : ℕ). used ≤ start + steps_paid n (length f.prefix) (digits_of decisions) (length decisions)) is paid)
