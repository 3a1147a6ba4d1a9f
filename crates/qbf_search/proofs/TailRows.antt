-- The rows of a tail have what its variables imply, told by the places of variables.
use Rattle.std.proofs.Common.{Global, ◌≡◌, ℕ, zero, suc, ◌+◌, ◌-◌, ◌<◌, ◌≤◌, Bool, true, false, ◌&&◌, List, [], ◌∷◌, ◌++◌, length, get_or, set, take, drop, map, if◌then◌else◌, ◌⊎◌, inl, inr, refl, sym, ap, ap₂, ◌∙◌, subst, arith, append-nil, append_assoc, length-append}
use Rattle.std.specs.Prelude.{◌==◌, nat_lt, Vec}
use Rattle.std.specs.Bool.{beq}
use Rattle.std.proofs.lemmas.Bool.{cases_eq, cases_Bool, eq-eqb, ne_eqb, eqb-true, lt-ltb, le-ltb, or_left, or_right, false≢true, false_from_ne_true}
use Rattle.std.proofs.lemmas.List.{map-set, length-map, get_or-map, get_or-set_same, get_or-set_other, at_drop_more}
use Rattle.bddl_model.specs.declared.formula.Lit.{Lit}
use Rattle.bddl_model.specs.declared.formula.Bound.{Bound}
use Rattle.bddl_model.specs.Truth.{Formula}
use Rattle.bddl_model.specs.Tail.{tail_length}
use Rattle.bddl_laws.proofs.Tails.{tail_is_a_tail}
use Rattle.bddl_model.specs.Circuit.{positive}
use Rattle.bddl_model.specs.Forms.{has_number, literal_variables, AllApart, AllAmong}
use Rattle.bddl_laws.specs.FollowingValues.{implied_beside, implied_by, implied_literals}
use Rattle.qbf_form.specs.Places.{place_from, place_in}
use Rattle.qbf_form.proofs.Places.{stands_before}
use Rattle.qbf_search.specs.Tails.{added_beside, added_at}

-- ---- places

pub place_at_most : (n : ℕ) (vs : List ℕ) (v : ℕ) → place_from (suc n) vs v ≤ n + length vs
place_at_most n [] v = omega arith
place_at_most n (w ∷ ws) v = elim (cases_Bool (w == v)) [
  | inl same ↦ rw same (omega arith)
  | inr other ↦ rw other (let later = place_at_most (suc n) ws v in omega arith)
]

has_element : (vs : List ℕ) (p : ℕ) → p < length vs → has_number vs (get_or vs p 0) ≡ true
has_element [] p lt = absurd (omega arith)
has_element (w ∷ ws) zero lt = or_left (w == w) (has_number ws w) (eq-eqb w w refl)
has_element (w ∷ ws) (suc p) lt = or_right (w == get_or ws p 0) (has_number ws (get_or ws p 0)) (has_element ws p (omega arith))

place_of_element : (n : ℕ) (vs : List ℕ) (p : ℕ) → AllApart vs → p < length vs → place_from n vs (get_or vs p 0) ≡ n + p
place_of_element n [] p apart lt = absurd (omega arith)
place_of_element n (w ∷ ws) zero apart lt = rw (eq-eqb w w refl) (omega arith)
place_of_element n (w ∷ ws) (suc p) apart lt =
    rw (false_from_ne_true (w == get_or ws p 0) (λ same. false≢true (sym apart.0 ∙ ap (has_number ws) (eqb-true w (get_or ws p 0) same) ∙ has_element ws p (omega arith))))
    (let later = place_of_element (suc n) ws p apart.1 (omega arith) in omega arith)

place_low : (n : ℕ) (vs : List ℕ) (v : ℕ) → has_number vs v ≡ true → n ≤ place_from n vs v
place_low n [] v h = absurd (false≢true h)
place_low n (w ∷ ws) v h = elim (cases_Bool (w == v)) [
  | inl same ↦ rw same (omega arith)
  | inr other ↦ rw other (let later = place_low (suc n) ws v (rw other at h) in omega arith)
]

element_at_place : (n : ℕ) (vs : List ℕ) (v p : ℕ) → has_number vs v ≡ true → place_from n vs v ≡ n + p → get_or vs p 0 ≡ v
element_at_place n [] v p h e = absurd (false≢true h)
element_at_place n (w ∷ ws) v zero h e = elim (cases_Bool (w == v)) [
  | inl same ↦ eqb-true w v same
  | inr other ↦ absurd (let low = place_low (suc n) ws v (rw other at h) in let there = rw other at e in omega arith)
]
element_at_place n (w ∷ ws) v (suc p) h e = elim (cases_Bool (w == v)) [
  | inl same ↦ absurd (let there = rw same at e in omega arith)
  | inr other ↦ element_at_place (suc n) ws v p (rw other at h) (let there = rw other at e in omega arith)
]

split_numbers : (vs : List ℕ) (p : ℕ) → p < length vs → take p vs ++ get_or vs p 0 ∷ drop (suc p) vs ≡ vs
split_numbers [] p lt = absurd (omega arith)
split_numbers (w ∷ ws) zero lt = refl
split_numbers (w ∷ ws) (suc p) lt = ap (λ vs. w ∷ vs) (split_numbers ws p (omega arith))

before_by_place : (vs : List ℕ) (p v : ℕ) → AllApart vs → p < length vs → has_number vs v ≡ true → nat_lt (place_in vs v) (place_in vs (get_or vs p 0)) ≡ has_number (take p vs) v
before_by_place vs p v apart lt bound =
    subst (λ (ws : List ℕ). nat_lt (place_in ws v) (place_in ws (get_or vs p 0)) ≡ has_number (take p vs) v) (split_numbers vs p lt)
    (stands_before 1 (take p vs) (get_or vs p 0) (drop (suc p) vs) v (subst AllApart (sym (split_numbers vs p lt)) apart) (subst (λ (ws : List ℕ). has_number ws v ≡ true) (sym (split_numbers vs p lt)) bound))

-- ---- what is implied beside another literal, by places

same_test : (n s t h : Bool) → s ≡ t → (n && (s && h)) ≡ ((t && beq n true) && h)
same_test true true true h e = refl
same_test true true false h e = absurd (false≢true (sym e))
same_test true false true h e = absurd (false≢true e)
same_test true false false h e = refl
same_test false true true h e = refl
same_test false true false h e = refl
same_test false false true h e = refl
same_test false false false h e = refl

pub implied_by_places : (vs : List ℕ) (p : ℕ) (other l : Lit) → AllApart vs → p < length vs → has_number vs other.var.0 ≡ true → has_number vs l.var.0 ≡ true
    → added_beside (place_in vs) p other l ≡ implied_beside (take p vs) (get_or vs p 0) other l
implied_by_places vs p other l apart lt bound_other bound_l =
    ap (λ t. if t then l ∷ [] else []) (elim (cases_Bool (place_in vs other.var.0 == suc p)) [
      | inl here ↦ at_place here
      | inr elsewhere ↦ not_at_place elsewhere
    ])
  where
    at_place : (place_in vs other.var.0 == suc p) ≡ true
        → (other.negated && (place_in vs other.var.0 == suc p && nat_lt (place_in vs l.var.0) (place_in vs other.var.0))) ≡ ((other.var.0 == get_or vs p 0 && beq other.negated true) && has_number (take p vs) l.var.0)
    at_place here =
        let is : get_or vs p 0 ≡ other.var.0 = element_at_place 1 vs other.var.0 p bound_other (let e = eqb-true (place_in vs other.var.0) (suc p) here in omega arith) in
        ap (λ h. other.negated && (place_in vs other.var.0 == suc p && h)) (ap (λ v. nat_lt (place_in vs l.var.0) (place_in vs v)) (sym is) ∙ before_by_place vs p l.var.0 apart lt bound_l)
        ∙ same_test other.negated (place_in vs other.var.0 == suc p) (other.var.0 == get_or vs p 0) (has_number (take p vs) l.var.0) (here ∙ sym (eq-eqb other.var.0 (get_or vs p 0) (sym is)))

    not_at_place : (place_in vs other.var.0 == suc p) ≡ false
        → (other.negated && (place_in vs other.var.0 == suc p && nat_lt (place_in vs l.var.0) (place_in vs other.var.0))) ≡ ((other.var.0 == get_or vs p 0 && beq other.negated true) && has_number (take p vs) l.var.0)
    not_at_place elsewhere =
        let differs : (other.var.0 == get_or vs p 0) ≡ false =
        false_from_ne_true (other.var.0 == get_or vs p 0) (λ same. false≢true (sym elsewhere ∙ eq-eqb (place_in vs other.var.0) (suc p) (ap (place_in vs) (eqb-true other.var.0 (get_or vs p 0) same) ∙ place_of_element 1 vs p apart lt ∙ (omega arith)))) in
        ap (λ s. other.negated && (s && nat_lt (place_in vs l.var.0) (place_in vs other.var.0))) elsewhere
        ∙ nothing other.negated
        ∙ sym (ap (λ s. (s && beq other.negated true) && has_number (take p vs) l.var.0) differs)
      where
        nothing : (n : Bool) → (n && (false && nat_lt (place_in vs l.var.0) (place_in vs other.var.0))) ≡ false
        nothing true = refl
        nothing false = refl

-- ---- one literal more in a row

pub row_pushed : (rows : List (Vec Lit Global)) (place : ℕ) (old new : Vec Lit Global) (l : Lit) (i : ℕ) → place < length rows → old ≡ get_or rows place old → new.items ≡ old.items ++ l ∷ []
    → get_or (map (λ (r : Vec Lit Global). r.items) (set rows place new)) i [] ≡ get_or (map (λ (r : Vec Lit Global). r.items) rows) i [] ++ added_at place i l
row_pushed rows place old new l i lt is pushed =
    ap (λ (ls : List (List Lit)). get_or ls i []) (map-set items rows place new)
    ∙ elim (cases_eq i place) [
      | inl same ↦ here same
      | inr other ↦ get_or-set_other (map items rows) place i new.items [] other ∙ sym (ap (λ t. get_or (map items rows) i [] ++ (if t then l ∷ [] else [])) (ne_eqb i place other) ∙ append-nil (get_or (map items rows) i []))
    ]
  where
    items : Vec Lit Global → List Lit
    items r = r.items

    here : i ≡ place → get_or (set (map items rows) place new.items) i [] ≡ get_or (map items rows) i [] ++ added_at place i l
    here same =
        ap (λ n. get_or (set (map items rows) place new.items) n []) same
        ∙ get_or-set_same (map items rows) place new.items [] (let many = length-map rows items in omega arith)
        ∙ pushed
        ∙ ap₂ (λ (ls : List Lit) (t : Bool). ls ++ (if t then l ∷ [] else [])) (ap items is ∙ sym (get_or-map items rows place old [] lt) ∙ ap (λ n. get_or (map items rows) n []) (sym same)) (sym (eq-eqb i place same))

-- ---- the row of the literal's place

row_number : (place before i : ℕ) → before < place → (i == place - before - 1) ≡ (place == suc (before + i))
row_number place before i lt = elim (cases_eq place (suc (before + i))) [
  | inl same ↦ eq-eqb i (place - before - 1) (omega arith) ∙ sym (eq-eqb place (suc (before + i)) same)
  | inr other ↦ ne_eqb i (place - before - 1) (λ e. other (omega arith)) ∙ sym (ne_eqb place (suc (before + i)) other)
]

-- the literal is added
pub added : (place_of : ℕ → ℕ) (before i place : ℕ) (other l : Lit) → place ≡ place_of other.var.0 → other.negated ≡ true → before < place → place_of l.var.0 < place
    → added_at (place - before - 1) i l ≡ added_beside place_of (before + i) other l
added place_of before i place other l is negated lt low =
    ap (λ t. if t then l ∷ [] else []) (row_number place before i lt ∙ ap (λ n. n == suc (before + i)) is
    ∙ sym (ap₂ (λ s t. s && (place_of other.var.0 == suc (before + i) && t)) negated (lt-ltb (place_of l.var.0) (place_of other.var.0) (omega arith)) ∙ with_true (place_of other.var.0 == suc (before + i))))
  where
    with_true : (t : Bool) → (true && (t && true)) ≡ t
    with_true true = refl
    with_true false = refl

-- or nothing is
pub not_added : (place_of : ℕ → ℕ) (before i : ℕ) (other l : Lit) → (other.negated ≡ false) ⊎ ((place_of other.var.0 ≤ before) ⊎ (place_of other.var.0 ≤ place_of l.var.0))
    → added_beside place_of (before + i) other l ≡ []
not_added place_of before i other l (inl positive) = ap (λ s. if s && (place_of other.var.0 == suc (before + i) && nat_lt (place_of l.var.0) (place_of other.var.0)) then l ∷ [] else []) positive
not_added place_of before i other l (inr (inl front)) =
    ap (λ s. if other.negated && (s && nat_lt (place_of l.var.0) (place_of other.var.0)) then l ∷ [] else []) (ne_eqb (place_of other.var.0) (suc (before + i)) (λ e. absurd (omega arith)))
    ∙ nothing other.negated
  where
    nothing : (n : Bool) → (if n && (false && nat_lt (place_of l.var.0) (place_of other.var.0)) then l ∷ [] else []) ≡ []
    nothing true = refl
    nothing false = refl
not_added place_of before i other l (inr (inr later)) =
    ap (λ s. if other.negated && (place_of other.var.0 == suc (before + i) && s) then l ∷ [] else []) (le-ltb (place_of l.var.0) (place_of other.var.0) later)
    ∙ nothing other.negated (place_of other.var.0 == suc (before + i))
  where
    nothing : (n t : Bool) → (if n && (t && false) then l ∷ [] else []) ≡ []
    nothing true true = refl
    nothing true false = refl
    nothing false true = refl
    nothing false false = refl

-- ---- clause by clause

pub one_more_clause : (cs : List (List Lit)) (number : ℕ) (vs : List ℕ) (g : ℕ) (old new all : List Lit) → number < length cs → old ++ implied_literals (drop number cs) vs g ≡ all → new ≡ old ++ implied_by vs g (get_or cs number [])
    → new ++ implied_literals (drop (number + 1) cs) vs g ≡ all
one_more_clause cs number vs g old new all lt so_far is =
    ap (λ ls. ls ++ implied_literals (drop (number + 1) cs) vs g) is
    ∙ append_assoc old (implied_by vs g (get_or cs number [])) (implied_literals (drop (number + 1) cs) vs g)
    ∙ ap (λ ls. old ++ ls) (sym (at_drop_more (λ ds. implied_literals ds vs g) cs number [] lt))
    ∙ so_far

-- both literals of a clause of two are looked at
pub two_added : (vs : List ℕ) (p : ℕ) (c : List Lit) (d e : Lit) (old one two : List Lit) → AllApart vs → p < length vs → AllAmong vs (literal_variables c) → 2 ≤ length c → length c < 3
    → one ≡ old ++ added_beside (place_in vs) p (get_or c 0 d) (get_or c 1 e) → two ≡ one ++ added_beside (place_in vs) p (get_or c 1 e) (get_or c 0 d) → two ≡ old ++ implied_by (take p vs) (get_or vs p 0) c
two_added vs p [] d e old one two apart lt among low high first second = absurd (omega arith)
two_added vs p (l ∷ []) d e old one two apart lt among low high first second = absurd (omega arith)
two_added vs p (l ∷ m ∷ k ∷ c) d e old one two apart lt among low high first second = absurd (omega arith)
two_added vs p (l ∷ m ∷ []) d e old one two apart lt among low high first second =
    second
    ∙ ap₂ (λ (xs ys : List Lit). xs ++ ys) (first ∙ ap (λ ls. old ++ ls) (implied_by_places vs p l m apart lt among.0 among.1.0)) (implied_by_places vs p m l apart lt among.1.0 among.0)
    ∙ append_assoc old (implied_beside (take p vs) (get_or vs p 0) l m) (implied_beside (take p vs) (get_or vs p 0) m l)

pub no_rows : (i : ℕ) → get_or (map (λ (r : Vec Lit Global). r.items) []) i [] ≡ []
no_rows i = refl

pub empty_pushed : (rows : List (Vec Lit Global)) (r : Vec Lit Global) (i : ℕ) → r.items ≡ [] → ((i : ℕ) → get_or (map (λ (r : Vec Lit Global). r.items) rows) i [] ≡ []) → get_or (map (λ (r : Vec Lit Global). r.items) (rows ++ r ∷ [])) i [] ≡ []
empty_pushed [] r zero is empty = is
empty_pushed [] r (suc i) is empty = refl
empty_pushed (x ∷ rows) r zero is empty = empty zero
empty_pushed (x ∷ rows) r (suc i) is empty = empty_pushed rows r i is (λ j. empty (suc j))

-- ---- the tail is within the prefix

pub tail_within : (f : Formula) → tail_length f ≤ length f.prefix
tail_within f = elim (tail_is_a_tail f) [
  | inl none ↦ omega arith
  | inr some ↦ within some.0 some.1 some.2 some.4
]
  where
    within : (front rest : List Bound) → front ++ rest ≡ f.prefix → length rest ≡ tail_length f → tail_length f ≤ length f.prefix
    within front rest whole many = let all = ap length whole in let both = length-append front rest in omega arith
