-- A variable is a gate exactly where some clause of three literals defines it.
use Rattle.std.proofs.Common.{◌≡◌, ℕ, Bool, true, false, not, ◌&&◌, ◌||◌, List, [], ◌∷◌, length, inl, inr, refl, sym, ap, subst, ◌∙◌, arith, eqb-true, eq-eqb}
use Rattle.std.specs.Prelude.{◌==◌}
use Rattle.std.specs.List.{list_any, list_all}
use Rattle.std.proofs.lemmas.Bool.{or_left, or_right, or_cases, or_from, and_parts, and_from, false≢true, not-true}
use Rattle.bddl_model.specs.declared.formula.Bound.{Bound}
use Rattle.bddl_model.specs.declared.formula.Lit.{Lit}
use Rattle.bddl_model.specs.Truth.{negation}
use Rattle.bddl_model.specs.Forms.{has_literal, has_number, prefix_variables, literal_variables, AllApart, AllFitPrefix, FitsPrefix}
use Rattle.bddl_model.specs.Circuit.{positive}
use Rattle.bddl_model.specs.Tail.{same_clause, has_clause, literals_of, defines, is_gate}
use Rattle.bddl_model.proofs.Assignments.{eqb_turned}
use Rattle.qbf_form.specs.declared.pairs.Pair.{Pair}
use Rattle.qbf_form.specs.TailMarks.{is_operand, is_head, is_defined, has_definition}
use Rattle.qbf_form.proofs.ThreeLiterals.{three_apart, has_first, has_second, has_third, same_as_given, same_second_first, same_third_first}
use Rattle.qbf_form.proofs.SameClauses.{same_bool, equal_literals, first_or_later, same_length}

negation_twice : (l : Lit) → negation (negation l) ≡ l
negation_twice l = equal_literals (negation (negation l)) l refl (twice l.negated)
  where
    twice : (b : Bool) → not (not b) ≡ b
    twice true = refl
    twice false = refl

-- ---- what passes a test

-- a clause that fits the prefix, and that passes where some clause is to pass
abbrev Fitting : List Bound → List (List Lit) → (List Lit → Bool) → Type 0
Fitting bounds cs p = (c : List Lit) × FitsPrefix bounds c × (p c ≡ true) × ((q : List Lit → Bool) → q c ≡ true → list_any q cs ≡ true)

some_clause : (bounds : List Bound) (cs : List (List Lit)) (p : List Lit → Bool) → AllFitPrefix bounds cs → list_any p cs ≡ true → Fitting bounds cs p
some_clause bounds [] p fit h = absurd cc
some_clause bounds (c ∷ cs) p fit h = elim (or_cases (p c) (list_any p cs) h) [
  | inl first ↦ (c, fit.0, first, (λ q passes. or_left (q c) (list_any q cs) passes))
  | inr rest ↦ (let r = some_clause bounds cs p fit.1 rest in (r.0, r.1, r.2, (λ q passes. or_right (q c) (list_any q cs) (r.3 q passes))))
]

some_literal : (p : Lit → Bool) (vs : List ℕ) → list_any p (literals_of vs) ≡ true → (l : Lit) × (has_number vs l.var.0 ≡ true) × (p l ≡ true)
some_literal p [] h = absurd cc
some_literal p (v ∷ vs) h = elim (or_cases (p (positive v)) (p (negation (positive v)) || list_any p (literals_of vs)) h) [
  | inl first ↦ (positive v, or_left (v == v) (has_number vs v) (eq-eqb v v refl), first)
  | inr rest ↦ elim (or_cases (p (negation (positive v))) (list_any p (literals_of vs)) rest) [
    | inl second ↦ (negation (positive v), or_left (v == v) (has_number vs v) (eq-eqb v v refl), second)
    | inr others ↦ (let r = some_literal p vs others in (r.0, or_right (v == r.0.var.0) (has_number vs r.0.var.0) r.1, r.2))
  ]
]

literal_counts : (p : Lit → Bool) (vs : List ℕ) (l : Lit) → has_number vs l.var.0 ≡ true → p l ≡ true → list_any p (literals_of vs) ≡ true
literal_counts p [] l h passes = absurd cc
literal_counts p (v ∷ vs) l h passes = elim (or_cases (v == l.var.0) (has_number vs l.var.0) h) [
  | inl same ↦ by_sign l.negated refl (eqb-true v l.var.0 same)
  | inr others ↦ or_right (p (positive v)) (p (negation (positive v)) || list_any p (literals_of vs)) (or_right (p (negation (positive v))) (list_any p (literals_of vs)) (literal_counts p vs l others passes))
]
  where
    by_sign : (b : Bool) → l.negated ≡ b → v ≡ l.var.0 → p (positive v) || (p (negation (positive v)) || list_any p (literals_of vs)) ≡ true
    by_sign false sign var = or_left (p (positive v)) (p (negation (positive v)) || list_any p (literals_of vs)) (subst (λ (x : Lit). p x ≡ true) (equal_literals l (positive v) (sym var) sign) passes)
    by_sign true sign var =
        or_right (p (positive v)) (p (negation (positive v)) || list_any p (literals_of vs)) (or_left (p (negation (positive v))) (list_any p (literals_of vs))
        (subst (λ (x : Lit). p x ≡ true) (equal_literals l (negation (positive v)) (sym var) sign) passes))

all_at : (p : Lit → Bool) (ls : List Lit) (l : Lit) → list_all p ls ≡ true → has_literal ls l ≡ true → p l ≡ true
all_at p [] l each h = absurd cc
all_at p (m ∷ ms) l each h =
    let parts = and_parts (p m) (list_all p ms) each in
    elim (first_or_later m l ms h) [
      | inl same ↦ subst (λ (x : Lit). p x ≡ true) (sym same) parts.0
      | inr others ↦ all_at p ms l parts.1 others
    ]

-- ---- operands by place and code, and by their variables and clauses

-- the literal's variable stands in front of g, and a clause says that g has the literal false
abbrev pub operand : List (List Lit) → List ℕ → ℕ → Lit → Bool
operand cs front g x = has_number front x.var.0 && has_clause cs (negation (positive g) ∷ negation x ∷ [])

pub record OperandsAre (bounds : List Bound) (cs : List (List Lit)) (place : ℕ → ℕ) (pairs : Pair → Bool) (front : List ℕ) (g : ℕ) : Type 0 where
  pub fit : AllFitPrefix bounds cs
  pub others : (v : ℕ) → has_number front v ≡ true → (v == g) ≡ false
  pub bound : (v : ℕ) → has_number front v ≡ true → has_number (prefix_variables bounds) v ≡ true
  pub same : (x : Lit) → has_number (prefix_variables bounds) x.var.0 ≡ true → is_operand place pairs (positive g) x ≡ operand cs front g x

-- ---- from the clause to the gate

head_gate : (bounds : List Bound) (cs : List (List Lit)) (place : ℕ → ℕ) (pairs : Pair → Bool) (front : List ℕ) (g : ℕ) → OperandsAre bounds cs place pairs front g → (h x y : Lit)
    → (h.var.0 == g && is_head place pairs h x y) ≡ true → has_number (prefix_variables bounds) x.var.0 ≡ true → has_number (prefix_variables bounds) y.var.0 ≡ true → (x.var.0 == y.var.0) ≡ false
    → has_clause cs (h ∷ x ∷ y ∷ []) ≡ true → is_gate cs front g ≡ true
head_gate bounds cs place pairs front g are h x y head bound_x bound_y differ defined =
    let at = and_parts (h.var.0 == g) (is_head place pairs h x y) head in
    let sign = and_parts (not h.negated) (is_operand place pairs h x && is_operand place pairs h y) at.1 in
    let is = equal_literals h (positive g) (eqb-true h.var.0 g at.0) (not-true h.negated sign.0) in
    let both = and_parts (is_operand place pairs h x) (is_operand place pairs h y) sign.1 in
    let first = parts_of h x is bound_x both.0 in
    let second = parts_of h y is bound_y both.1 in
    literal_counts (λ a. list_any (λ b. not (a.var.0 == b.var.0) && defines cs g a b) (literals_of front)) front (negation x) first.0
    (literal_counts (λ b. not (x.var.0 == b.var.0) && defines cs g (negation x) b) front (negation y) second.0
    (and_from (not (x.var.0 == y.var.0)) (defines cs g (negation x) (negation y)) (ap not differ)
    (and_from (has_clause cs (negation (positive g) ∷ negation x ∷ [])) (has_clause cs (negation (positive g) ∷ negation y ∷ []) && has_clause cs (positive g ∷ negation (negation x) ∷ negation (negation y) ∷ [])) first.1
    (and_from (has_clause cs (negation (positive g) ∷ negation y ∷ [])) (has_clause cs (positive g ∷ negation (negation x) ∷ negation (negation y) ∷ [])) second.1
    (rw (negation_twice x, negation_twice y, ← is) defined)))))
  where
    parts_of : (h z : Lit) → h ≡ positive g → has_number (prefix_variables bounds) z.var.0 ≡ true → is_operand place pairs h z ≡ true
        → (has_number front z.var.0 ≡ true) × (has_clause cs (negation (positive g) ∷ negation z ∷ []) ≡ true)
    parts_of h z is bound_z passes =
        and_parts (has_number front z.var.0) (has_clause cs (negation (positive g) ∷ negation z ∷ []))
        (sym (are.same z bound_z) ∙ subst (λ (x : Lit). is_operand place pairs x z ≡ true) is passes)

clause_gate : (bounds : List Bound) (cs : List (List Lit)) (place : ℕ → ℕ) (pairs : Pair → Bool) (front : List ℕ) (g : ℕ) → OperandsAre bounds cs place pairs front g → (c : List Lit) → FitsPrefix bounds c
    → is_defined place pairs c g ≡ true → ((q : List Lit → Bool) → q c ≡ true → list_any q cs ≡ true) → is_gate cs front g ≡ true
clause_gate bounds cs place pairs front g are [] fits defined counts = absurd cc
clause_gate bounds cs place pairs front g are (l ∷ []) fits defined counts = absurd cc
clause_gate bounds cs place pairs front g are (l ∷ m ∷ []) fits defined counts = absurd cc
clause_gate bounds cs place pairs front g are (l ∷ m ∷ n ∷ k ∷ ls) fits defined counts = absurd cc
clause_gate bounds cs place pairs front g are (l ∷ m ∷ n ∷ []) fits defined counts =
    let apart = three_apart l m n fits.1 in
    let bound_l = fits.0.0 in
    let bound_m = fits.0.1.0 in
    let bound_n = fits.0.1.1.0 in
    elim (or_cases (l.var.0 == g && is_head place pairs l m n) (m.var.0 == g && is_head place pairs m l n || n.var.0 == g && is_head place pairs n l m) defined) [
      | inl first ↦ head_gate bounds cs place pairs front g are l m n first bound_m bound_n (eqb_turned n.var.0 m.var.0 apart.2) (counts (same_clause (l ∷ m ∷ n ∷ [])) (same_as_given l m n))
      | inr rest ↦ elim (or_cases (m.var.0 == g && is_head place pairs m l n) (n.var.0 == g && is_head place pairs n l m) rest) [
        | inl second ↦ head_gate bounds cs place pairs front g are m l n second bound_l bound_n (eqb_turned n.var.0 l.var.0 apart.1) (counts (same_clause (m ∷ l ∷ n ∷ [])) (same_second_first l m n))
        | inr third ↦ head_gate bounds cs place pairs front g are n l m third bound_l bound_m (eqb_turned m.var.0 l.var.0 apart.0) (counts (same_clause (n ∷ l ∷ m ∷ [])) (same_third_first l m n))
      ]
    ]

gate_of_definition : (bounds : List Bound) (cs : List (List Lit)) (place : ℕ → ℕ) (pairs : Pair → Bool) (front : List ℕ) (g : ℕ) → OperandsAre bounds cs place pairs front g
    → has_definition place pairs cs g ≡ true → is_gate cs front g ≡ true
gate_of_definition bounds cs place pairs front g are h =
    let c = some_clause bounds cs (λ c. is_defined place pairs c g) are.fit h in
    clause_gate bounds cs place pairs front g are c.0 c.1 c.2 c.3

-- ---- from the gate to the clause

head_is : (place : ℕ → ℕ) (pairs : Pair → Bool) (g : ℕ) (h x y : Lit) → positive g ≡ h → is_operand place pairs (positive g) x ≡ true → is_operand place pairs (positive g) y ≡ true
    → (h.var.0 == g && is_head place pairs h x y) ≡ true
head_is place pairs g h x y same first second =
    subst (λ (l : Lit). (l.var.0 == g && is_head place pairs l x y) ≡ true) same
    (and_from (g == g) (is_head place pairs (positive g) x y) (eq-eqb g g refl) (and_from (is_operand place pairs (positive g) x) (is_operand place pairs (positive g) y) first second))

defined_by : (place : ℕ → ℕ) (pairs : Pair → Bool) (g : ℕ) (c : List Lit) → length c ≡ 3 → AllApart (literal_variables c) → has_literal c (positive g) ≡ true
    → ((x : Lit) → has_literal c x ≡ true → (x.var.0 == g) ≡ false → is_operand place pairs (positive g) x ≡ true) → is_defined place pairs c g ≡ true
defined_by place pairs g [] three apart head rest = absurd (omega arith)
defined_by place pairs g (l ∷ []) three apart head rest = absurd (omega arith)
defined_by place pairs g (l ∷ m ∷ []) three apart head rest = absurd (omega arith)
defined_by place pairs g (l ∷ m ∷ n ∷ k ∷ ls) three apart head rest = absurd (omega arith)
defined_by place pairs g (l ∷ m ∷ n ∷ []) three apart head rest =
    let differ = three_apart l m n apart in
    elim (first_or_later l (positive g) (m ∷ n ∷ []) head) [
      | inl same ↦ or_left (l.var.0 == g && is_head place pairs l m n) (m.var.0 == g && is_head place pairs m l n || n.var.0 == g && is_head place pairs n l m)
          (head_is place pairs g l m n same (rest m (has_second l m n) (as_head l same m differ.0)) (rest n (has_third l m n) (as_head l same n differ.1)))
      | inr behind ↦ or_right (l.var.0 == g && is_head place pairs l m n) (m.var.0 == g && is_head place pairs m l n || n.var.0 == g && is_head place pairs n l m) (elim (first_or_later m (positive g) (n ∷ []) behind) [
        | inl same ↦ or_left (m.var.0 == g && is_head place pairs m l n) (n.var.0 == g && is_head place pairs n l m)
            (head_is place pairs g m l n same (rest l (has_first l m n) (as_head m same l (eqb_turned m.var.0 l.var.0 differ.0))) (rest n (has_third l m n) (as_head m same n differ.2)))
        | inr last ↦ or_right (m.var.0 == g && is_head place pairs m l n) (n.var.0 == g && is_head place pairs n l m) (elim (first_or_later n (positive g) [] last) [
          | inl same ↦ head_is place pairs g n l m same (rest l (has_first l m n) (as_head n same l (eqb_turned n.var.0 l.var.0 differ.1))) (rest m (has_second l m n) (as_head n same m (eqb_turned n.var.0 m.var.0 differ.2)))
          | inr nowhere ↦ absurd cc
        ])
      ])
    ]
  where
    as_head : (h : Lit) → positive g ≡ h → (x : Lit) → (x.var.0 == h.var.0) ≡ false → (x.var.0 == g) ≡ false
    as_head h same x differs = subst (λ (l : Lit). (x.var.0 == l.var.0) ≡ false) (sym same) differs

operands_define : (bounds : List Bound) (cs : List (List Lit)) (place : ℕ → ℕ) (pairs : Pair → Bool) (front : List ℕ) (g : ℕ) → OperandsAre bounds cs place pairs front g → (a b : Lit)
    → has_number front a.var.0 ≡ true → has_number front b.var.0 ≡ true → (a.var.0 == b.var.0) ≡ false → defines cs g a b ≡ true → has_definition place pairs cs g ≡ true
operands_define bounds cs place pairs front g are a b before_a before_b differ defined =
    let first = and_parts (has_clause cs (negation (positive g) ∷ a ∷ [])) (has_clause cs (negation (positive g) ∷ b ∷ []) && has_clause cs clause) defined in
    let second = and_parts (has_clause cs (negation (positive g) ∷ b ∷ [])) (has_clause cs clause) first.1 in
    let c = some_clause bounds cs (same_clause clause) are.fit second.1 in
    let ways = and_parts (list_all (has_literal c.0) clause) (list_all (has_literal clause) c.0) c.2 in
    let three = same_length clause c.0 c.2 clause_apart c.1.1 in
    c.3 (λ d. is_defined place pairs d g)
    (defined_by place pairs g c.0 three c.1.1 (and_parts (has_literal c.0 (positive g)) (list_all (has_literal c.0) (negation a ∷ negation b ∷ [])) ways.0).0
    (λ x among other. rest x (all_at (has_literal clause) c.0 x ways.1 among) other (passes a before_a first.0) (passes b before_b second.0)))
  where
    clause : List Lit
    clause = positive g ∷ negation a ∷ negation b ∷ []

    clause_apart : AllApart (literal_variables (positive g ∷ negation a ∷ negation b ∷ []))
    clause_apart = (
      or_from (a.var.0 == g) (b.var.0 == g || false) (are.others a.var.0 before_a) (or_from (b.var.0 == g) false (are.others b.var.0 before_b) refl),
      (or_from (b.var.0 == a.var.0) false (eqb_turned a.var.0 b.var.0 differ) refl, (refl, tt)),
    )

    passes : (z : Lit) → has_number front z.var.0 ≡ true → has_clause cs (negation (positive g) ∷ z ∷ []) ≡ true → is_operand place pairs (positive g) (negation z) ≡ true
    passes z before_z implied =
        are.same (negation z) (are.bound z.var.0 before_z)
        ∙ and_from (has_number front z.var.0) (has_clause cs (negation (positive g) ∷ negation (negation z) ∷ [])) before_z (rw (negation_twice z) implied)

    rest : (x : Lit) → has_literal (positive g ∷ negation a ∷ negation b ∷ []) x ≡ true → (x.var.0 == g) ≡ false
        → is_operand place pairs (positive g) (negation a) ≡ true → is_operand place pairs (positive g) (negation b) ≡ true → is_operand place pairs (positive g) x ≡ true
    rest x among other first second = elim (first_or_later (positive g) x (negation a ∷ negation b ∷ []) among) [
      | inl head ↦ absurd (false≢true (sym other ∙ eq-eqb x.var.0 g (ap (λ (l : Lit). l.var.0) head)))
      | inr behind ↦ elim (first_or_later (negation a) x (negation b ∷ []) behind) [
        | inl same ↦ rw same first
        | inr last ↦ elim (first_or_later (negation b) x [] last) [
          | inl same ↦ rw same second
          | inr nowhere ↦ absurd cc
        ]
      ]
    ]

definition_of_gate : (bounds : List Bound) (cs : List (List Lit)) (place : ℕ → ℕ) (pairs : Pair → Bool) (front : List ℕ) (g : ℕ) → OperandsAre bounds cs place pairs front g
    → is_gate cs front g ≡ true → has_definition place pairs cs g ≡ true
definition_of_gate bounds cs place pairs front g are h =
    let a = some_literal (λ a. list_any (λ b. not (a.var.0 == b.var.0) && defines cs g a b) (literals_of front)) front h in
    let b = some_literal (λ b. not (a.0.var.0 == b.var.0) && defines cs g a.0 b) front a.2 in
    let parts = and_parts (not (a.0.var.0 == b.0.var.0)) (defines cs g a.0 b.0) b.2 in
    operands_define bounds cs place pairs front g are a.0 b.0 a.1 b.1 (not-true (a.0.var.0 == b.0.var.0) parts.0) parts.1

pub gate_is_defined : (bounds : List Bound) (cs : List (List Lit)) (place : ℕ → ℕ) (pairs : Pair → Bool) (front : List ℕ) (g : ℕ) → OperandsAre bounds cs place pairs front g
    → is_gate cs front g ≡ has_definition place pairs cs g
gate_is_defined bounds cs place pairs front g are =
    same_bool (is_gate cs front g) (has_definition place pairs cs g) (definition_of_gate bounds cs place pairs front g are) (gate_of_definition bounds cs place pairs front g are)
