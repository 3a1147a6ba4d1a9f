-- A clause is fine exactly where each play that stays true behind the variables that are kept makes it true.
use Rattle.std.proofs.Common.{◌≡◌, ℕ, ◌≤◌, ◌<◌, ◌+◌, ◌-◌, Bool, true, false, not, ◌||◌, List, [], ◌∷◌, take, drop, filter, if◌then◌else◌, ⊎_elim, refl, sym, ap, ◌∙◌, subst, arith, eqb-true, eq-eqb, drop-drop}
use Rattle.std.specs.Prelude.{◌==◌}
use Rattle.std.proofs.lemmas.Bool.{or_parts, or_from, or_left, or_right, false≢true, cases_lt}
use Rattle.bddl_model.specs.declared.formula.Quant.TheVariants.{Exists}
use Rattle.bddl_model.specs.declared.formula.Bound.{Bound}
use Rattle.bddl_model.specs.declared.formula.Lit.{Lit}
use Rattle.bddl_model.specs.Truth.{Assignment, value, literal_true, clause_true}
use Rattle.bddl_model.specs.Forms.{prefix_variables, AllApart, FitsPrefix}
use Rattle.bddl_model.specs.Fine.{last_named, among_first, clause_depth, IsFineClause}
use Rattle.bddl_model.proofs.Assignments.{binds, value_same}
use Rattle.bddl_laws.proofs.Fitting.{names, fits_tail, names_bound}
use Rattle.bddl_laws.proofs.Places.{first_not_later, later_binds_fewer, apart_drop, behind}
use Rattle.bddl_laws.proofs.Play.{Played, extend}

-- the value is true behind the variables that are kept and from there on, up to k of them
abbrev pub Stays : ℕ → List Bound → (Assignment → Bool) → ℕ → Assignment → Type 0
Stays kept prefix m k a = (j : ℕ) → kept ≤ j → j ≤ k → value (drop j prefix) m a ≡ true

-- and so to the end
abbrev pub StaysTrue : ℕ → List Bound → (Assignment → Bool) → Assignment → Type 0
StaysTrue kept prefix m a = (j : ℕ) → kept ≤ j → value (drop j prefix) m a ≡ true

pub record Survives (kept : ℕ) (prefix : List Bound) (m : Assignment → Bool) (c : List Lit) : Type 0 where
  pub holds : (a : Assignment) → StaysTrue kept prefix m a → clause_true a c ≡ true

-- ---- a fine clause survives

fewer_false : (a : Assignment) (test : Lit → Bool) (c : List Lit) → clause_true a c ≡ false → clause_true a (filter test c) ≡ false
fewer_false a test [] h = refl
fewer_false a test (l ∷ c) h = at (test l) (fewer_false a test c (or_parts (literal_true a l) _ h).1)
  where
    at : (t : Bool) → clause_true a (filter test c) ≡ false → clause_true a (if t then (l ∷ filter test c) else filter test c) ≡ false
    at true r = or_from _ _ (or_parts _ _ h).0 r
    at false r = r

pub survives_from_fine : (kept : ℕ) (prefix : List Bound) (m : Assignment → Bool) (c : List Lit) → IsFineClause kept prefix m c → Survives kept prefix m c
survives_from_fine kept prefix m c f = record { holds = λ a s. at a s (clause_true a c) refl }
  where
    at : (a : Assignment) → StaysTrue kept prefix m a → (t : Bool) → clause_true a c ≡ t → clause_true a c ≡ true
    at a s true e = e
    at a s false e = absurd (f.unbroken a (λ j lo hi. s j lo) (fewer_false a (λ l. binds (take (clause_depth kept prefix c) prefix) l.var.0) c e))

-- ---- a clause that survives is fine

-- an assignment that makes each literal false, where no variable stands twice
abbrev pub against : List Lit → Assignment
against [] v = false
against (l ∷ ls) v = if l.var.0 == v then l.negated else against ls v

literal_same : (a b : Assignment) (l : Lit) → b l.var.0 ≡ a l.var.0 → literal_true b l ≡ literal_true a l
literal_same a b l e = ap (λ x. if l.negated then not x else x) e

literal_against : (b : Assignment) (l : Lit) → b l.var.0 ≡ l.negated → literal_true b l ≡ false
literal_against b l e = ap (λ x. if l.negated then not x else x) e ∙ at l.negated
  where
    at : (n : Bool) → (if n then not n else n) ≡ false
    at true = refl
    at false = refl

-- literals inside are false by a, and those outside are so against the clause
module _ (inside : ℕ → Bool) (a b : Assignment) where
  pub made_false : (prefix : List Bound) (c : List Lit) → FitsPrefix prefix c → ((v : ℕ) → names c v ≡ true → (inside v ≡ true → b v ≡ a v) × (inside v ≡ false → b v ≡ against c v)) → clause_true a (filter (λ l. inside l.var.0) c) ≡ false → clause_true b c ≡ false
  made_false prefix [] p h f = refl
  made_false prefix (l ∷ c) p h f =
      or_from _ _ (first (inside l.var.0) refl f)
      (made_false prefix c (fits_tail prefix l c p) (λ v n. ((λ i. (h v (or_right _ _ n)).0 i), λ i. (h v (or_right _ _ n)).1 i ∙ skip v n)) (rest (inside l.var.0) f))
    where
      named : (l.var.0 == l.var.0 || names c l.var.0) ≡ true
      named = or_left _ _ (eq-eqb l.var.0 l.var.0 refl)

      first : (t : Bool) → inside l.var.0 ≡ t → clause_true a (if t then (l ∷ filter (λ l. inside l.var.0) c) else filter (λ l. inside l.var.0) c) ≡ false → literal_true b l ≡ false
      first true e f = literal_same a b l ((h l.var.0 named).0 e) ∙ (or_parts _ _ f).0
      first false e f = literal_against b l ((h l.var.0 named).1 e ∙ rw (eq-eqb l.var.0 l.var.0 refl))

      rest : (t : Bool) → clause_true a (if t then (l ∷ filter (λ l. inside l.var.0) c) else filter (λ l. inside l.var.0) c) ≡ false → clause_true a (filter (λ l. inside l.var.0) c) ≡ false
      rest true f = (or_parts (literal_true a l) _ f).1
      rest false f = f

      skip : (v : ℕ) → names c v ≡ true → against (l ∷ c) v ≡ against c v
      skip v n = at (l.var.0 == v) refl
        where
          at : (t : Bool) → (l.var.0 == v) ≡ t → (if t then l.negated else against c v) ≡ against c v
          at true e = absurd (false≢true (sym p.1.0 ∙ ap (names c) (eqb-true l.var.0 v e) ∙ n))
          at false e = refl

-- a play up to a place behind the last existential literal, gone on to the end
module _ (kept : ℕ) (prefix : List Bound) (m : Assignment → Bool) (c : List Lit) (d : AllApart (prefix_variables prefix)) (p : FitsPrefix prefix c) (k : ℕ) (last : last_named Exists prefix c ≤ k) (a b : Assignment) (play : Played (drop k prefix) m (against c) a b) where
  stays_on : Stays kept prefix m k a → StaysTrue kept prefix m b
  stays_on st j lo = ⊎_elim early late (cases_lt j k)
    where
      early : j < k → value (drop j prefix) m b ≡ true
      early lt = sym (value_same (drop j prefix) m a b (λ w o. play.same w (later_binds_fewer prefix j k w (omega arith) o))) ∙ st j lo (omega arith)

      late : k ≤ j → value (drop j prefix) m b ≡ true
      late le =
          let e : k + (j - k) ≡ j = omega arith in
          subst (λ l. value l m b ≡ true) (drop-drop (j - k) k prefix ∙ ap (λ n. drop n prefix) e) (play.won (j - k))

  false_at_the_end : clause_true a (among_first k prefix c) ≡ false → clause_true b c ≡ false
  false_at_the_end f = made_false (λ v. binds (take k prefix) v) a b prefix c p at f
    where
      at : (v : ℕ) → names c v ≡ true → (binds (take k prefix) v ≡ true → b v ≡ a v) × (binds (take k prefix) v ≡ false → b v ≡ against c v)
      at v n = ((λ i. sym (play.same v (first_not_later prefix k v d i))), λ o. play.free v (behind prefix k c v last n (names_bound prefix c v p n) o))

pub fine_from_survives : (kept : ℕ) (prefix : List Bound) (m : Assignment → Bool) (c : List Lit) → AllApart (prefix_variables prefix) → FitsPrefix prefix c → Survives kept prefix m c → IsFineClause kept prefix m c
fine_from_survives kept prefix m c d p s = record { fits = p; unbroken = λ a st f. broken a st f (omega arith) (omega arith) }
  where
    broken : (a : Assignment) → Stays kept prefix m (clause_depth kept prefix c) a → clause_true a (among_first (clause_depth kept prefix c) prefix c) ≡ false → kept ≤ clause_depth kept prefix c → last_named Exists prefix c ≤ clause_depth kept prefix c → ⊥
    broken a st f lo last =
        let k = clause_depth kept prefix c in
        let x = extend (drop k prefix) m (against c) a (apart_drop prefix k d) (st k lo (omega arith)) in
        false≢true (sym (false_at_the_end kept prefix m c d p k last a x.0 x.1 f) ∙ s.holds x.0 (stays_on kept prefix m c d p k last a x.0 x.1 st))
