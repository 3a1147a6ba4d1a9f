-- A clause with a literal more, and clauses with one more: doubles, opposites, and what is kept.
use Rattle.std.proofs.Common.{◌≡◌, ℕ, Bool, true, false, ◌||◌, ◌&&◌, not, nat_eq, if◌then◌else◌, List, [], ◌∷◌, ◌++◌, refl, sym, ap, ◌∙◌, inl, inr}
use Rattle.std.specs.Bool.{beq}
use Rattle.std.proofs.lemmas.Bool.{cases_Bool, cases_eq, eq-eqb, ne_eqb, and_parts, eqb-true}
use Rattle.bddl_model.specs.declared.formula.Lit.{Lit}
use Rattle.bddl_model.specs.Truth.{negation}
use Rattle.bddl_model.specs.Forms.{has_literal, same_literal}
use Rattle.bddl_model.specs.FormulaReading.{lit_of}
use Rattle.bddl_model.specs.Qdimacs.{with_new_literals, without_doubles, has_opposites, kept_clauses}
use Rattle.qdimacs_io.proofs.Tables.{or_false}

or_assoc : (a b c : Bool) → (a || (b || c)) ≡ ((a || b) || c)
or_assoc true b c = refl
or_assoc false b c = refl

pub doubles_push : (done ls : List Lit) (l : Lit) → with_new_literals done (ls ++ l ∷ []) ≡ (if has_literal (with_new_literals done ls) l then with_new_literals done ls else with_new_literals done ls ++ l ∷ [])
doubles_push done [] l = refl
doubles_push done (m ∷ ls) l = doubles_push (if has_literal done m then done else done ++ m ∷ []) ls l

has_push : (ls : List Lit) (l m : Lit) → has_literal (ls ++ l ∷ []) m ≡ (has_literal ls m || same_literal m l)
has_push [] l m = or_false (same_literal m l)
has_push (x ∷ ls) l m = ap (λ b. same_literal m x || b) (has_push ls l m) ∙ or_assoc (same_literal m x) (has_literal ls m) (same_literal m l)

nat_eq_swap : (a b : ℕ) → nat_eq a b ≡ nat_eq b a
nat_eq_swap a b = elim (cases_eq a b) [
  | inl same ↦ eq-eqb a b same ∙ sym (eq-eqb b a (sym same))
  | inr differs ↦ ne_eqb a b differs ∙ sym (ne_eqb b a (λ e. differs (sym e)))
]

-- a literal is the negation of another as that one is of it
negation_swap : (l m : Lit) → same_literal (negation m) l ≡ same_literal (negation l) m
negation_swap l m = ap (λ b. b && beq (not m.negated) l.negated) (nat_eq_swap m.var.0 l.var.0) ∙ ap (λ b. nat_eq l.var.0 m.var.0 && b) (signs m.negated l.negated)
  where
    signs : (x y : Bool) → beq (not x) y ≡ beq (not y) x
    signs true true = refl
    signs true false = refl
    signs false true = refl
    signs false false = refl

or_regroup : (a b c d : Bool) → ((a || b) || (c || d)) ≡ ((a || c) || (b || d))
or_regroup true b c d = refl
or_regroup false true true d = refl
or_regroup false true false d = refl
or_regroup false false c d = refl

pub opposites_push : (ls : List Lit) (l : Lit) → has_opposites (ls ++ l ∷ []) ≡ (has_opposites ls || has_literal ls (negation l))
opposites_push [] l = refl
opposites_push (m ∷ ls) l =
    ap (λ b. b || has_opposites (ls ++ l ∷ [])) (has_push ls l (negation m))
    ∙ ap (λ b. (has_literal ls (negation m) || same_literal (negation m) l) || b) (opposites_push ls l)
    ∙ ap (λ b. (has_literal ls (negation m) || b) || (has_opposites ls || has_literal ls (negation l))) (negation_swap l m)
    ∙ or_regroup (has_literal ls (negation m)) (same_literal (negation l) m) (has_opposites ls) (has_literal ls (negation l))

pub same_is : (l m : Lit) → same_literal l m ≡ true → l ≡ m
same_is l m e = let parts = and_parts (nat_eq l.var.0 m.var.0) (beq l.negated m.negated) e in go l.var.0 m.var.0 l.negated m.negated (eqb-true l.var.0 m.var.0 parts.0) parts.1
  where
    go : (a b : ℕ) (x y : Bool) → a ≡ b → beq x y ≡ true → lit_of x a ≡ lit_of y b
    go a b true true e s = ap (λ (v : ℕ). lit_of true v) e
    go a b false false e s = ap (λ (v : ℕ). lit_of false v) e
    go a b true false e s = absurd cc
    go a b false true e s = absurd cc

has_same : (done : List Lit) (m x : Lit) → has_literal done x ≡ true → (has_literal done m || same_literal m x) ≡ has_literal done m
has_same done m x has = elim (cases_Bool (same_literal m x)) [
  | inl same ↦ rw same (let e = same_is m x same in or_true (has_literal done m) ∙ sym (ap (has_literal done) e ∙ has))
  | inr differs ↦ rw differs (or_false (has_literal done m))
]
  where
    or_true : (b : Bool) → (b || true) ≡ true
    or_true true = refl
    or_true false = refl

has_after : (done ls : List Lit) (m : Lit) → has_literal (with_new_literals done ls) m ≡ (has_literal done m || has_literal ls m)
has_after done [] m = sym (or_false (has_literal done m))
has_after done (x ∷ ls) m = elim (cases_Bool (has_literal done x)) [
  | inl has ↦ rw has (has_after done ls m ∙ ap (λ b. b || has_literal ls m) (sym (has_same done m x has)) ∙ sym (or_assoc (has_literal done m) (same_literal m x) (has_literal ls m)))
  | inr new ↦ rw new (has_after (done ++ x ∷ []) ls m ∙ ap (λ b. b || has_literal ls m) (has_push done x m) ∙ sym (or_assoc (has_literal done m) (same_literal m x) (has_literal ls m)))
]

-- a literal stands in a clause as it does without the doubles
pub has_without : (ls : List Lit) (m : Lit) → has_literal (without_doubles ls) m ≡ has_literal ls m
has_without ls m = has_after [] ls m

pub kept_push : (cs : List (List Lit)) (ls : List Lit) → kept_clauses (cs ++ ls ∷ []) ≡ (if has_opposites ls then kept_clauses cs else kept_clauses cs ++ without_doubles ls ∷ [])
kept_push [] ls = elim (cases_Bool (has_opposites ls)) [
  | inl both ↦ rw both refl
  | inr none ↦ rw none refl
]
kept_push (c ∷ cs) ls = elim (cases_Bool (has_opposites c)) [
  | inl both ↦ rw both (kept_push cs ls)
  | inr none ↦ rw none (ap (λ l. without_doubles c ∷ l) (kept_push cs ls) ∙ spread (has_opposites ls))
]
  where
    spread : (b : Bool) → without_doubles c ∷ (if b then kept_clauses cs else kept_clauses cs ++ without_doubles ls ∷ []) ≡ (if b then without_doubles c ∷ kept_clauses cs else without_doubles c ∷ (kept_clauses cs ++ without_doubles ls ∷ []))
    spread true = refl
    spread false = refl
