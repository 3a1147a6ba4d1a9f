-- Clauses with the same literals have the same length; one of one literal is that literal.
use Rattle.std.proofs.Common.{◌≡◌, ℕ, Bool, true, false, not, List, [], ◌∷◌, length, ◌⊎◌, inl, inr, ⊎_elim, refl, sym, ap, ap₂, subst, ◌∙◌, arith, eqb-true, eq-eqb}
use Rattle.std.specs.Prelude.{◌==◌}
use Rattle.std.specs.Bool.{beq}
use Rattle.std.specs.Cmp.{booleans_Decides}
use Rattle.std.specs.List.{list_all}
use Rattle.std.proofs.lemmas.Bool.{or_left, or_right, or_cases, and_parts, and_from, false_from_ne_true, not-true}
use Rattle.std.proofs.lemmas.List.{length-map}
use Rattle.bddl_model.specs.declared.formula.Lit.{Lit}
use Rattle.bddl_model.specs.Forms.{has_number, has_literal, literal_variables, same_literal, AllApart, AllAmong}
use Rattle.bddl_model.specs.Circuit.{positive}
use Rattle.bddl_model.specs.Tail.{same_clause}
use Rattle.qbf_form.specs.TailMarks.{is_unit}
use Rattle.qbf_form.proofs.Variables.{few_among}

pub same_bool : (x y : Bool) → (x ≡ true → y ≡ true) → (y ≡ true → x ≡ true) → x ≡ y
same_bool true y there back = sym (there refl)
same_bool false true there back = back refl
same_bool false false there back = refl

-- ---- literals

pub equal_literals : (l m : Lit) → l.var.0 ≡ m.var.0 → l.negated ≡ m.negated → l ≡ m
equal_literals l m var sign = ap₂ literal var sign
  where
    literal : ℕ → Bool → Lit
    literal v b = record { var = record { 0 = v }; negated = b }

pub literals_same : (l m : Lit) → same_literal l m ≡ true → l ≡ m
literals_same l m h =
    let parts = and_parts (l.var.0 == m.var.0) (beq l.negated m.negated) h in
    equal_literals l m (eqb-true l.var.0 m.var.0 parts.0) ((booleans_Decides l.negated m.negated).0 parts.1)

pub literal_same : (l : Lit) → same_literal l l ≡ true
literal_same l = and_from (l.var.0 == l.var.0) (beq l.negated l.negated) (eq-eqb l.var.0 l.var.0 refl) ((booleans_Decides l.negated l.negated).1 refl)

pub here : (l : Lit) (ls : List Lit) → has_literal (l ∷ ls) l ≡ true
here l ls = or_left (same_literal l l) (has_literal ls l) (literal_same l)

pub later : (l m : Lit) (ls : List Lit) → has_literal ls m ≡ true → has_literal (l ∷ ls) m ≡ true
later l m ls h = or_right (same_literal m l) (has_literal ls m) h

-- it is the first one, or one of the others
pub first_or_later : (l m : Lit) (ls : List Lit) → has_literal (l ∷ ls) m ≡ true → (m ≡ l) ⊎ (has_literal ls m ≡ true)
first_or_later l m ls h = ⊎_elim (λ same. inl (literals_same m l same)) (λ rest. inr rest) (or_cases (same_literal m l) (has_literal ls m) h)

literal_variable : (ls : List Lit) (m : Lit) → has_literal ls m ≡ true → has_number (literal_variables ls) m.var.0 ≡ true
literal_variable [] m h = absurd cc
literal_variable (l ∷ ls) m h = elim (first_or_later l m ls h) [
  | inl same ↦ or_left (l.var.0 == m.var.0) (has_number (literal_variables ls) m.var.0) (eq-eqb l.var.0 m.var.0 (ap (λ (x : Lit). x.var.0) (sym same)))
  | inr rest ↦ or_right (l.var.0 == m.var.0) (has_number (literal_variables ls) m.var.0) (literal_variable ls m rest)
]

-- ---- clauses

variables_among : (d c : List Lit) → list_all (has_literal d) c ≡ true → AllAmong (literal_variables d) (literal_variables c)
variables_among d [] h = tt
variables_among d (l ∷ ls) h =
    let parts = and_parts (has_literal d l) (list_all (has_literal d) ls) h in
    (literal_variable d l parts.0, variables_among d ls parts.1)

pub same_length : (d c : List Lit) → same_clause d c ≡ true → AllApart (literal_variables d) → AllApart (literal_variables c) → length c ≡ length d
same_length d c same d_apart c_apart =
    let parts = and_parts (list_all (has_literal c) d) (list_all (has_literal d) c) same in
    let down = few_among (literal_variables d) (literal_variables c) c_apart (variables_among d c parts.1) in
    let up = few_among (literal_variables c) (literal_variables d) d_apart (variables_among c d parts.0) in
    let of_d = length-map d (λ (l : Lit). l.var.0) in
    let of_c = length-map c (λ (l : Lit). l.var.0) in
    omega arith

pub other_length : (d c : List Lit) (n : ℕ) → AllApart (literal_variables d) → AllApart (literal_variables c) → length d ≡ n → (length c ≡ n → ⊥) → same_clause d c ≡ false
other_length d c n d_apart c_apart is differs =
    false_from_ne_true (same_clause d c) (λ same. differs (same_length d c same d_apart c_apart ∙ is))

-- ---- one literal

pub unit_is : (c : List Lit) (v : ℕ) → AllApart (literal_variables c) → same_clause (positive v ∷ []) c ≡ is_unit c v
unit_is [] v apart = refl
unit_is (l ∷ m ∷ ls) v apart = other_length (positive v ∷ []) (l ∷ m ∷ ls) 1 (refl, tt) apart refl (λ e. absurd (omega arith))
unit_is (l ∷ []) v apart = same_bool (same_clause (positive v ∷ []) (l ∷ [])) (is_unit (l ∷ []) v) there back
  where
    alone : (x : Lit) → list_all (has_literal (x ∷ [])) (x ∷ []) ≡ true
    alone x = and_from (has_literal (x ∷ []) x) true (here x []) refl

    there : same_clause (positive v ∷ []) (l ∷ []) ≡ true → is_unit (l ∷ []) v ≡ true
    there h =
        let first = and_parts (has_literal (l ∷ []) (positive v)) true (and_parts (list_all (has_literal (l ∷ [])) (positive v ∷ [])) (list_all (has_literal (positive v ∷ [])) (l ∷ [])) h).0 in
        elim (first_or_later l (positive v) [] first.0) [
          | inl same ↦ and_from (not l.negated) (l.var.0 == v) (ap (λ (x : Lit). not x.negated) (sym same)) (eq-eqb l.var.0 v (ap (λ (x : Lit). x.var.0) (sym same)))
          | inr nowhere ↦ absurd cc
        ]

    back : is_unit (l ∷ []) v ≡ true → same_clause (positive v ∷ []) (l ∷ []) ≡ true
    back h =
        let parts = and_parts (not l.negated) (l.var.0 == v) h in
        let same = equal_literals l (positive v) (eqb-true l.var.0 v parts.1) (not-true l.negated parts.0) in
        subst (λ (x : Lit). same_clause (positive v ∷ []) (x ∷ []) ≡ true) (sym same)
        (and_from (list_all (has_literal (positive v ∷ [])) (positive v ∷ [])) (list_all (has_literal (positive v ∷ [])) (positive v ∷ [])) (alone (positive v)) (alone (positive v)))
