-- A part of a constraint that fits the prefix fits it, and so do two together that share no variable.
use Rattle.std.proofs.Common.{◌≡◌, ℕ, Bool, true, false, ◌||◌, List, [], ◌∷◌, ◌++◌, filter, if◌then◌else◌, ⊎_elim, refl, sym, ap, ◌∙◌, eqb-true, eq-eqb}
use Rattle.std.specs.Prelude.{◌==◌}
use Rattle.std.proofs.lemmas.Bool.{or_parts, or_from, or_cases, or_left, or_right, false≢true, false_from_ne_true}
use Rattle.bddl_model.specs.declared.formula.Bound.{Bound}
use Rattle.bddl_model.specs.declared.formula.Lit.{Lit}
use Rattle.bddl_model.specs.Forms.{has_number, literal_variables, FitsPrefix}
use Rattle.bddl_model.proofs.Assignments.{binds}

-- a literal has the variable
abbrev pub names : List Lit → ℕ → Bool
names ls v = has_number (literal_variables ls) v

pub fits_tail : (prefix : List Bound) (l : Lit) (c : List Lit) → FitsPrefix prefix (l ∷ c) → FitsPrefix prefix c
fits_tail prefix l c f = (f.0.1, f.1.1)

pub names_bound : (prefix : List Bound) (c : List Lit) (v : ℕ) → FitsPrefix prefix c → names c v ≡ true → binds prefix v ≡ true
names_bound prefix [] v f n = absurd (false≢true n)
names_bound prefix (l ∷ c) v f n = ⊎_elim (λ e. sym (ap (binds prefix) (eqb-true l.var.0 v e)) ∙ f.0.0) (λ r. names_bound prefix c v (fits_tail prefix l c f) r) (or_cases (l.var.0 == v) (names c v) n)

-- ---- the literals that pass a test

pub names_fewer : (test : Lit → Bool) (c : List Lit) (v : ℕ) → names c v ≡ false → names (filter test c) v ≡ false
names_fewer test [] v h = refl
names_fewer test (l ∷ c) v h = at (test l) (names_fewer test c v (or_parts (l.var.0 == v) _ h).1)
  where
    at : (t : Bool) → names (filter test c) v ≡ false → names (if t then (l ∷ filter test c) else filter test c) v ≡ false
    at true r = or_from _ _ (or_parts _ _ h).0 r
    at false r = r

pub fits_fewer : (test : Lit → Bool) (prefix : List Bound) (c : List Lit) → FitsPrefix prefix c → FitsPrefix prefix (filter test c)
fits_fewer test prefix [] f = (tt, tt)
fits_fewer test prefix (l ∷ c) f = at (test l) (fits_fewer test prefix c (fits_tail prefix l c f))
  where
    at : (t : Bool) → FitsPrefix prefix (filter test c) → FitsPrefix prefix (if t then (l ∷ filter test c) else filter test c)
    at true r = ((f.0.0, r.0), (names_fewer test c l.var.0 f.1.0, r.1))
    at false r = r

-- a test of the variable alone, which this one passes
pub names_kept : (test : ℕ → Bool) (c : List Lit) (v : ℕ) → test v ≡ true → names (filter (λ l. test l.var.0) c) v ≡ names c v
names_kept test [] v h = refl
names_kept test (l ∷ c) v h = at (test l.var.0) refl (names_kept test c v h)
  where
    at : (t : Bool) → test l.var.0 ≡ t → names (filter (λ l. test l.var.0) c) v ≡ names c v → names (if t then (l ∷ filter (λ l. test l.var.0) c) else filter (λ l. test l.var.0) c) v ≡ (l.var.0 == v || names c v)
    at true e r = ap (λ x. l.var.0 == v || x) r
    at false e r = r ∙ sym (ap (λ x. x || names c v) (false_from_ne_true _ (λ i. false≢true (sym e ∙ ap test (eqb-true l.var.0 v i) ∙ h))))

pub names_pass : (test : ℕ → Bool) (c : List Lit) (v : ℕ) → names (filter (λ l. test l.var.0) c) v ≡ true → test v ≡ true
names_pass test [] v h = absurd (false≢true h)
names_pass test (l ∷ c) v h = at (test l.var.0) refl h (λ r. names_pass test c v r)
  where
    at : (t : Bool) → test l.var.0 ≡ t → names (if t then (l ∷ filter (λ l. test l.var.0) c) else filter (λ l. test l.var.0) c) v ≡ true → (names (filter (λ l. test l.var.0) c) v ≡ true → test v ≡ true) → test v ≡ true
    at true e h next = ⊎_elim (λ i. sym (ap test (eqb-true l.var.0 v i)) ∙ e) next (or_cases (l.var.0 == v) _ h)
    at false e h next = next h

-- ---- two together

names-append : (c d : List Lit) (v : ℕ) → names c v ≡ false → names d v ≡ false → names (c ++ d) v ≡ false
names-append [] d v p q = q
names-append (l ∷ c) d v p q = or_from _ _ (or_parts _ _ p).0 (names-append c d v (or_parts (l.var.0 == v) _ p).1 q)

pub fits-append : (prefix : List Bound) (c d : List Lit) → FitsPrefix prefix c → FitsPrefix prefix d → ((v : ℕ) → names c v ≡ true → names d v ≡ false) → FitsPrefix prefix (c ++ d)
fits-append prefix [] d f g apart = g
fits-append prefix (l ∷ c) d f g apart =
    let r = fits-append prefix c d (fits_tail prefix l c f) g (λ v n. apart v (or_right _ _ n)) in
    ((f.0.0, r.0), (names-append c d l.var.0 f.1.0 (apart l.var.0 (or_left _ _ (eq-eqb l.var.0 l.var.0 refl))), r.1))
