-- Clauses of a variable and of variables before it, under the value that follows from those before and under the other one.
use Rattle.std.proofs.Common.{◌≡◌, ℕ, Bool, true, false, not, ◌&&◌, ◌||◌, List, [], ◌∷◌, if◌then◌else◌, ◌⊎◌, inl, inr, refl, sym, ap, ◌∙◌, subst, eq-eqb}
use Rattle.std.specs.Prelude.{◌==◌}
use Rattle.std.specs.List.{list_any, list_all}
use Rattle.std.proofs.lemmas.Bool.{or_left, or_right, or_from, or_cases, and_left, and_right, and_parts, and_cases, and_from, false≢true}
use Rattle.std.proofs.lemmas.List.Folds.{list_all-append}
use Rattle.std.proofs.Math.Bool.{and-true}
use Rattle.bddl_model.specs.declared.formula.Bound.{Bound}
use Rattle.bddl_model.specs.declared.formula.Lit.{Lit}
use Rattle.bddl_model.specs.Truth.{Assignment, negation, literal_true, clause_true, clauses_true}
use Rattle.bddl_model.specs.Circuit.{positive}
use Rattle.bddl_model.specs.Forms.{has_number, literal_variables, same_literal, has_literal, AllApart, AllFitPrefix}
use Rattle.bddl_model.specs.Tail.{same_clause, has_clause, literals_of, defines, is_gate}
use Rattle.bddl_model.proofs.Tseitin.{negation_true}
use Rattle.bddl_laws.proofs.Literals.{same_as_itself}
use Rattle.bddl_laws.proofs.SharedGates.{literal_is, one_literal, two_literals}
use Rattle.bddl_laws.specs.FollowingValues.{implied_beside, implied_by, implied_literals, following_value}

-- the same values of these variables
abbrev pub SameAmong : List ℕ → Assignment → Assignment → Type 0
SameAmong vs a b = (v : ℕ) → has_number vs v ≡ true → b v ≡ a v

same_literal_value : (vs : List ℕ) (a b : Assignment) (l : Lit) → SameAmong vs a b → has_number vs l.var.0 ≡ true → literal_true b l ≡ literal_true a l
same_literal_value vs a b l same h = ap (λ t. if l.negated then not t else t) (same l.var.0 h)

-- ---- with an implied literal false, the variable makes a clause false

-- what doesn't hold of the literal that is chosen, if one is
chosen_false : (test : Lit → Bool) (t : Bool) (l : Lit) → list_all test (if t then l ∷ [] else []) ≡ false → (t ≡ true) × (test l ≡ false)
chosen_false test true l h = (refl, sym (and-true (test l)) ∙ h)
chosen_false test false l h = absurd (false≢true (sym h))

beside_false : (before : List ℕ) (g : ℕ) (other l : Lit) (a b : Assignment) → SameAmong before a b → literal_true b (negation (positive g)) ≡ false
    → list_all (literal_true a) (implied_beside before g other l) ≡ false → (literal_true b other ≡ false) × (literal_true b l ≡ false)
beside_false before g other l a b same holds h =
    let chosen = chosen_false (literal_true a) (same_literal other (negation (positive g)) && has_number before l.var.0) l h in
    let parts = and_parts (same_literal other (negation (positive g))) (has_number before l.var.0) chosen.0 in
    (ap (literal_true b) (literal_is other (negation (positive g)) parts.0) ∙ holds, same_literal_value before a b l same parts.1 ∙ chosen.1)

clause_false : (before : List ℕ) (g : ℕ) (c : List Lit) (a b : Assignment) → SameAmong before a b → literal_true b (negation (positive g)) ≡ false
    → list_all (literal_true a) (implied_by before g c) ≡ false → clause_true b c ≡ false
clause_false before g [] a b same holds h = absurd (false≢true (sym h))
clause_false before g (l ∷ []) a b same holds h = absurd (false≢true (sym h))
clause_false before g (l ∷ m ∷ k ∷ c) a b same holds h = absurd (false≢true (sym h))
clause_false before g (l ∷ m ∷ []) a b same holds h =
    elim (and_cases (list_all (literal_true a) (implied_beside before g l m)) (list_all (literal_true a) (implied_beside before g m l)) (sym (list_all-append (literal_true a) (implied_beside before g l m) (implied_beside before g m l)) ∙ h)) [
      | inl first ↦ (let both = beside_false before g l m a b same holds first in or_from (literal_true b l) (literal_true b m || false) both.0 (or_from (literal_true b m) false both.1 refl))
      | inr second ↦ (let both = beside_false before g m l a b same holds second in or_from (literal_true b l) (literal_true b m || false) both.1 (or_from (literal_true b m) false both.0 refl))
    ]

pub clauses_false : (before : List ℕ) (g : ℕ) (cs : List (List Lit)) (a b : Assignment) → SameAmong before a b → literal_true b (negation (positive g)) ≡ false
    → following_value cs before g a ≡ false → clauses_true cs b ≡ false
clauses_false before g [] a b same holds h = absurd (false≢true (sym h))
clauses_false before g (c ∷ cs) a b same holds h =
    elim (and_cases (list_all (literal_true a) (implied_by before g c)) (following_value cs before g a) (sym (list_all-append (literal_true a) (implied_by before g c) (implied_literals cs before g)) ∙ h)) [
      | inl first ↦ and_left (clause_true b c) (clauses_true cs b) (clause_false before g c a b same holds first)
      | inr later ↦ and_right (clause_true b c) (clauses_true cs b) (clauses_false before g cs a b same holds later)
    ]

-- ---- with all implied literals true, each of them is

chosen_true : (test : Lit → Bool) (t : Bool) (l : Lit) → t ≡ true → list_all test (if t then l ∷ [] else []) ≡ true → test l ≡ true
chosen_true test true l is h = (and_parts (test l) true h).0
chosen_true test false l is h = absurd (false≢true is)

-- the literal is implied by the clause of the two
beside_true : (before : List ℕ) (g : ℕ) (test : Lit → Bool) (x other l : Lit) → negation (positive g) ≡ other → x ≡ l → has_number before x.var.0 ≡ true
    → list_all test (implied_beside before g other l) ≡ true → test x ≡ true
beside_true before g test x other l is_other is_l among h =
    ap test is_l
    ∙ chosen_true test (same_literal other (negation (positive g)) && has_number before l.var.0) l
    (and_from (same_literal other (negation (positive g))) (has_number before l.var.0)
    (subst (λ (m : Lit). same_literal m (negation (positive g)) ≡ true) is_other (same_as_itself (negation (positive g))))
    (sym (ap (λ (m : Lit). has_number before m.var.0) is_l) ∙ among)) h

-- of three literals that are each one of two, two have the same variable
three_of_two : (p q r x y : Lit) → (p ≡ x) ⊎ (p ≡ y) → (q ≡ x) ⊎ (q ≡ y) → (r ≡ x) ⊎ (r ≡ y) → (p.var.0 ≡ q.var.0) ⊎ ((p.var.0 ≡ r.var.0) ⊎ (q.var.0 ≡ r.var.0))
three_of_two p q r x y (inl a) (inl b) c = inl (ap (λ (l : Lit). l.var.0) (a ∙ sym b))
three_of_two p q r x y (inl a) (inr b) (inl c) = inr (inl (ap (λ (l : Lit). l.var.0) (a ∙ sym c)))
three_of_two p q r x y (inl a) (inr b) (inr c) = inr (inr (ap (λ (l : Lit). l.var.0) (b ∙ sym c)))
three_of_two p q r x y (inr a) (inl b) (inl c) = inr (inr (ap (λ (l : Lit). l.var.0) (b ∙ sym c)))
three_of_two p q r x y (inr a) (inl b) (inr c) = inr (inl (ap (λ (l : Lit). l.var.0) (a ∙ sym c)))
three_of_two p q r x y (inr a) (inr b) c = inl (ap (λ (l : Lit). l.var.0) (a ∙ sym b))

not_three : (p q r : Lit) (c : List Lit) → AllApart (literal_variables (p ∷ q ∷ r ∷ c)) → (p.var.0 ≡ q.var.0) ⊎ ((p.var.0 ≡ r.var.0) ⊎ (q.var.0 ≡ r.var.0)) → ⊥
not_three p q r c apart (inl same) = false≢true (sym apart.0 ∙ or_left (q.var.0 == p.var.0) _ (eq-eqb q.var.0 p.var.0 (sym same)))
not_three p q r c apart (inr (inl same)) = false≢true (sym apart.0 ∙ or_right (q.var.0 == p.var.0) _ (or_left (r.var.0 == p.var.0) _ (eq-eqb r.var.0 p.var.0 (sym same))))
not_three p q r c apart (inr (inr same)) = false≢true (sym apart.1.0 ∙ or_left (r.var.0 == q.var.0) _ (eq-eqb r.var.0 q.var.0 (sym same)))

-- a clause of the variable's negation and a literal
abbrev beside : ℕ → Lit → List Lit
beside g x = negation (positive g) ∷ x ∷ []

clause_implies : (before : List ℕ) (g : ℕ) (test : Lit → Bool) (x : Lit) (c : List Lit) → AllApart (literal_variables c) → has_number before x.var.0 ≡ true → (x.var.0 ≡ g → ⊥)
    → same_clause (beside g x) c ≡ true → list_all test (implied_by before g c) ≡ true → test x ≡ true
clause_implies before g test x [] apart among other same h = absurd (false≢true same)
clause_implies before g test x (p ∷ []) apart among other same h =
    let ways = and_parts (list_all (has_literal (p ∷ [])) (beside g x)) (list_all (has_literal (beside g x)) (p ∷ [])) same in
    let heads = and_parts (has_literal (p ∷ []) (negation (positive g))) (has_literal (p ∷ []) x && true) ways.0 in
    let second = and_parts (has_literal (p ∷ []) x) true heads.1 in
    absurd (other (ap (λ (l : Lit). l.var.0) (one_literal x p second.0 ∙ sym (one_literal (negation (positive g)) p heads.0))))
clause_implies before g test x (p ∷ q ∷ []) apart among other same h =
    let ways = and_parts (list_all (has_literal (p ∷ q ∷ [])) (beside g x)) (list_all (has_literal (beside g x)) (p ∷ q ∷ [])) same in
    let heads = and_parts (has_literal (p ∷ q ∷ []) (negation (positive g))) (has_literal (p ∷ q ∷ []) x && true) ways.0 in
    let second = and_parts (has_literal (p ∷ q ∷ []) x) true heads.1 in
    let parts = and_parts (list_all test (implied_beside before g p q)) (list_all test (implied_beside before g q p)) (sym (list_all-append test (implied_beside before g p q) (implied_beside before g q p)) ∙ h) in
    go parts (two_literals (negation (positive g)) p q heads.0) (two_literals x p q second.0)
  where
    differ : (l : Lit) → negation (positive g) ≡ l → x ≡ l → ⊥
    differ l of_g of_x = other (ap (λ (l : Lit). l.var.0) (of_x ∙ sym of_g))

    go : (list_all test (implied_beside before g p q) ≡ true) × (list_all test (implied_beside before g q p) ≡ true)
        → (negation (positive g) ≡ p) ⊎ (negation (positive g) ≡ q) → (x ≡ p) ⊎ (x ≡ q) → test x ≡ true
    go parts (inl of_g) (inl of_x) = absurd (differ p of_g of_x)
    go parts (inl of_g) (inr of_x) = beside_true before g test x p q of_g of_x among parts.0
    go parts (inr of_g) (inl of_x) = beside_true before g test x q p of_g of_x among parts.1
    go parts (inr of_g) (inr of_x) = absurd (differ q of_g of_x)
clause_implies before g test x (p ∷ q ∷ r ∷ c) apart among other same h =
    let ways = and_parts (list_all (has_literal (p ∷ q ∷ r ∷ c)) (beside g x)) (list_all (has_literal (beside g x)) (p ∷ q ∷ r ∷ c)) same in
    let one = and_parts (has_literal (beside g x) p) (list_all (has_literal (beside g x)) (q ∷ r ∷ c)) ways.1 in
    let two = and_parts (has_literal (beside g x) q) (list_all (has_literal (beside g x)) (r ∷ c)) one.1 in
    let three = and_parts (has_literal (beside g x) r) (list_all (has_literal (beside g x)) c) two.1 in
    absurd (not_three p q r c apart (three_of_two p q r (negation (positive g)) x (two_literals p (negation (positive g)) x one.0) (two_literals q (negation (positive g)) x two.0) (two_literals r (negation (positive g)) x three.0)))

clauses_imply : (prefix : List Bound) (before : List ℕ) (g : ℕ) (test : Lit → Bool) (x : Lit) (cs : List (List Lit)) → AllFitPrefix prefix cs → has_number before x.var.0 ≡ true → (x.var.0 ≡ g → ⊥)
    → has_clause cs (beside g x) ≡ true → list_all test (implied_literals cs before g) ≡ true → test x ≡ true
clauses_imply prefix before g test x [] fit among other has h = absurd (false≢true has)
clauses_imply prefix before g test x (c ∷ cs) fit among other has h =
    let parts = and_parts (list_all test (implied_by before g c)) (list_all test (implied_literals cs before g)) (sym (list_all-append test (implied_by before g c) (implied_literals cs before g)) ∙ h) in
    elim (or_cases (same_clause (beside g x) c) (has_clause cs (beside g x)) has) [
      | inl here ↦ clause_implies before g test x c fit.0.1 among other here parts.0
      | inr later ↦ clauses_imply prefix before g test x cs fit.1 among other later parts.1
    ]

-- ---- a clause that the form has, in any order

literal_false : (ls : List Lit) (b : Assignment) (l : Lit) → clause_true b ls ≡ false → has_literal ls l ≡ true → literal_true b l ≡ false
literal_false [] b l h has = absurd (false≢true has)
literal_false (m ∷ ls) b l h has =
    let parts = or_parts_of (literal_true b m) (clause_true b ls) h in
    elim (or_cases (same_literal l m) (has_literal ls l) has) [
      | inl here ↦ ap (literal_true b) (literal_is l m here) ∙ parts.0
      | inr later ↦ literal_false ls b l parts.1 later
    ]
  where
    or_parts_of : (s t : Bool) → (s || t) ≡ false → (s ≡ false) × (t ≡ false)
    or_parts_of false false e = (refl, refl)
    or_parts_of false true e = absurd (false≢true (sym e))
    or_parts_of true t e = absurd (false≢true (sym e))

all_false : (wanted c : List Lit) (b : Assignment) → clause_true b wanted ≡ false → list_all (has_literal wanted) c ≡ true → clause_true b c ≡ false
all_false wanted [] b h among = refl
all_false wanted (l ∷ c) b h among =
    let parts = and_parts (has_literal wanted l) (list_all (has_literal wanted) c) among in
    or_from (literal_true b l) (clause_true b c) (literal_false wanted b l h parts.0) (all_false wanted c b h parts.1)

pub has_false_clause : (wanted : List Lit) (cs : List (List Lit)) (b : Assignment) → clause_true b wanted ≡ false → has_clause cs wanted ≡ true → clauses_true cs b ≡ false
has_false_clause wanted [] b h has = absurd (false≢true has)
has_false_clause wanted (c ∷ cs) b h has = elim (or_cases (same_clause wanted c) (has_clause cs wanted) has) [
  | inl here ↦ and_left (clause_true b c) (clauses_true cs b) (all_false wanted c b h (and_parts (list_all (has_literal c) wanted) (list_all (has_literal wanted) c) here).1)
  | inr later ↦ and_right (clause_true b c) (clauses_true cs b) (has_false_clause wanted cs b h later)
]

-- ---- the variable of a gate

literal_passes : (test : Lit → Bool) (vs : List ℕ) → list_any test (literals_of vs) ≡ true → (l : Lit) × (has_number vs l.var.0 ≡ true) × (test l ≡ true)
literal_passes test [] h = absurd (false≢true h)
literal_passes test (v ∷ vs) h = elim (or_cases (test (positive v)) (test (negation (positive v)) || list_any test (literals_of vs)) h) [
  | inl first ↦ (positive v, or_left (v == v) (has_number vs v) (eq-eqb v v refl), first)
  | inr rest ↦ elim (or_cases (test (negation (positive v))) (list_any test (literals_of vs)) rest) [
    | inl second ↦ (negation (positive v), or_left (v == v) (has_number vs v) (eq-eqb v v refl), second)
    | inr others ↦ (let r = literal_passes test vs others in (r.0, or_right (v == r.0.var.0) (has_number vs r.0.var.0) r.1, r.2))
  ]
]

-- with all implied literals true and the variable false, the gate's third clause is false
third_false : (before : List ℕ) (g : ℕ) (x y : Lit) (cs : List (List Lit)) (a b : Assignment) → SameAmong before a b → b g ≡ false
    → has_number before x.var.0 ≡ true → has_number before y.var.0 ≡ true → literal_true a x ≡ true → literal_true a y ≡ true
    → has_clause cs (positive g ∷ negation x ∷ negation y ∷ []) ≡ true → clauses_true cs b ≡ false
third_false before g x y cs a b same g_false among_x among_y x_true y_true has =
    has_false_clause (positive g ∷ negation x ∷ negation y ∷ []) cs b
    (or_from (literal_true b (positive g)) (literal_true b (negation x) || (literal_true b (negation y) || false)) g_false
    (or_from (literal_true b (negation x)) (literal_true b (negation y) || false) (opposite x among_x x_true)
    (or_from (literal_true b (negation y)) false (opposite y among_y y_true) refl))) has
  where
    opposite : (l : Lit) → has_number before l.var.0 ≡ true → literal_true a l ≡ true → literal_true b (negation l) ≡ false
    opposite l among is = negation_true b l ∙ ap not (same_literal_value before a b l same among ∙ is)

pub gate_false : (prefix : List Bound) (before : List ℕ) (g : ℕ) (cs : List (List Lit)) (a b : Assignment) → AllFitPrefix prefix cs → has_number before g ≡ false → SameAmong before a b → b g ≡ false
    → is_gate cs before g ≡ true → following_value cs before g a ≡ true → clauses_true cs b ≡ false
gate_false prefix before g cs a b fit apart same g_false gate h =
    let x = literal_passes (λ x. list_any (λ y. not (x.var.0 == y.var.0) && defines cs g x y) (literals_of before)) before gate in
    let y = literal_passes (λ y. not (x.0.var.0 == y.var.0) && defines cs g x.0 y) before x.2 in
    let both = and_parts (not (x.0.var.0 == y.0.var.0)) (defines cs g x.0 y.0) y.2 in
    let first = and_parts (has_clause cs (beside g x.0)) (has_clause cs (beside g y.0) && has_clause cs (positive g ∷ negation x.0 ∷ negation y.0 ∷ [])) both.1 in
    let second = and_parts (has_clause cs (beside g y.0)) (has_clause cs (positive g ∷ negation x.0 ∷ negation y.0 ∷ [])) first.1 in
    third_false before g x.0 y.0 cs a b same g_false x.1 y.1
    (clauses_imply prefix before g (literal_true a) x.0 cs fit x.1 (other x.0 x.1) first.0 h)
    (clauses_imply prefix before g (literal_true a) y.0 cs fit y.1 (other y.0 y.1) second.0 h)
    second.1
  where
    other : (l : Lit) → has_number before l.var.0 ≡ true → l.var.0 ≡ g → ⊥
    other l among same = false≢true (sym apart ∙ ap (has_number before) (sym same) ∙ among)
