-- A fine clause without existential literals makes the form false, and a fine cube without universal ones makes it true.
use Rattle.std.proofs.Common.{◌≡◌, ℕ, zero, suc, ◌≤◌, Bool, true, false, not, ◌&&◌, List, [], ◌∷◌, take, drop, filter, if◌then◌else◌, refl, sym, ap, ◌∙◌, subst, arith, eq-eqb, eqb-true}
use Rattle.std.specs.Prelude.{◌==◌}
use Rattle.std.proofs.lemmas.Bool.{or_from, and_parts, false≢true, true≢false, not-false, false_from_ne_true, true_from_ne_false}
use Rattle.std.proofs.lemmas.List.{take-append-drop}
use Rattle.bddl_model.specs.declared.formula.Quant.{Quant}
use Rattle.bddl_model.specs.declared.formula.Quant.TheVariants.{Exists, All}
use Rattle.bddl_model.specs.declared.formula.Bound.{Bound}
use Rattle.bddl_model.specs.declared.formula.Lit.{Lit}
use Rattle.bddl_model.specs.Truth.{Assignment, assign, value, clause_true}
use Rattle.bddl_model.specs.Forms.{FitsPrefix}
use Rattle.bddl_model.specs.FormulaText.{same_quant}
use Rattle.bddl_model.specs.Fine.{first_block, up_to, last_named, among_first, cube_true, clause_depth, cube_depth, IsFineClause, IsFineCube}
use Rattle.bddl_model.proofs.Assignments.{binds, SameOutside, assign_other, value_same, value-append}
use Rattle.bddl_model.proofs.Truth.{value_settled}
use Rattle.bddl_laws.proofs.Fitting.{names, fits_fewer, names_pass}
use Rattle.bddl_laws.proofs.Survival.{against, made_false}
use Rattle.bddl_model.specs.Dual.{dual_prefix, negated_literals}
use Rattle.bddl_laws.proofs.Duality.{value_dual, block_dual, last_dual, clause_from_cube}

-- ---- behind the variables that are kept

pub false_behind : (kept : ℕ) (prefix : List Bound) (m : Assignment → Bool) (c : List Lit) (a : Assignment) → IsFineClause kept prefix m c → last_named Exists prefix c ≡ 0 → clause_true a (among_first kept prefix c) ≡ false → value (drop kept prefix) m a ≡ false
false_behind kept prefix m c a f none h = false_from_ne_true _ (λ t. f.unbroken a
    (λ j lo hi. let q : kept ≡ j = omega (arith, none) in subst (λ i. value (drop i prefix) m a ≡ true) q t)
    (subst (λ i. clause_true a (among_first i prefix c) ≡ false) (let k : kept ≡ clause_depth kept prefix c = omega (arith, none) in k) h))

pub true_behind : (kept : ℕ) (prefix : List Bound) (m : Assignment → Bool) (k : List Lit) (a : Assignment) → IsFineCube kept prefix m k → last_named All prefix k ≡ 0 → cube_true a (among_first kept prefix k) ≡ true → value (drop kept prefix) m a ≡ true
true_behind kept prefix m k a f none h = true_from_ne_false _ (λ t. f.unbroken a
    (λ j lo hi. let q : kept ≡ j = omega (arith, none) in subst (λ i. value (drop i prefix) m a ≡ false) q t)
    (subst (λ i. cube_true a (among_first i prefix k) ≡ true) (let d : kept ≡ cube_depth kept prefix k = omega (arith, none) in d) h))

-- ---- a universal first block asks for each of its values

outside_rest : (x : Bound) (rest : List Bound) (a b : Assignment) → SameOutside (x ∷ rest) a b → SameOutside rest (assign x.var.0 (b x.var.0) a) b
outside_rest x rest a b h w o = at (x.var.0 == w) refl
  where
    at : (t : Bool) → (x.var.0 == w) ≡ t → assign x.var.0 (b x.var.0) a w ≡ b w
    at true e = rw (eq-eqb w x.var.0 (sym (eqb-true x.var.0 w e))) (ap b (eqb-true x.var.0 w e))
    at false e = assign_other x.var.0 (b x.var.0) a w e ∙ h w (or_from _ _ e o)

each_start : (kept : ℕ) (prefix : List Bound) (m : Assignment → Bool) (a b : Assignment) → kept ≤ first_block All prefix → SameOutside (take kept prefix) a b → value prefix m a ≡ true → value (drop kept prefix) m b ≡ true
each_start zero prefix m a b within s h = sym (value_same prefix m a b (λ w o. s w refl)) ∙ h
each_start (suc kept) [] m a b within s h = absurd (omega (arith, within))
each_start (suc kept) (x ∷ rest) m a b within s h = at x.quant refl within (each_start kept rest m (assign x.var.0 (b x.var.0) a) b)
  where
    at : (q : Quant) → x.quant ≡ q → suc kept ≤ (if same_quant q All then suc (first_block All rest) else 0)
        → (kept ≤ first_block All rest → SameOutside (take kept rest) (assign x.var.0 (b x.var.0) a) b → value rest m (assign x.var.0 (b x.var.0) a) ≡ true → value (drop kept rest) m b ≡ true)
        → value (drop kept rest) m b ≡ true
    at Exists e within next = absurd (omega (arith, within))
    at All e within next = next (omega (arith, within)) (outside_rest x (take kept rest) a b s) (both (b x.var.0))
      where
        each : (value rest m (assign x.var.0 true a) && value rest m (assign x.var.0 false a)) ≡ true
        each = rw e at h

        both : (v : Bool) → value rest m (assign x.var.0 v a) ≡ true
        both true = (and_parts _ _ each).0
        both false = (and_parts _ _ each).1

-- ---- values of the first block that make each literal false

none_true : (a : Assignment) (c : List Lit) → clause_true a (filter (λ l. false) c) ≡ false
none_true a [] = refl
none_true a (l ∷ c) = none_true a c

against_false : (b : Assignment) (prefix : List Bound) (c : List Lit) → FitsPrefix prefix c → ((v : ℕ) → names c v ≡ true → b v ≡ against c v) → clause_true b c ≡ false
against_false b prefix c f h = made_false (λ v. false) b b prefix c f (λ v n. ((λ i. refl), λ i. h v n)) (none_true b c)

-- ---- the whole form

pub whole_false : (kept : ℕ) (prefix : List Bound) (m : Assignment → Bool) (c : List Lit) (a : Assignment) → kept ≤ first_block All prefix → IsFineClause kept prefix m c → last_named Exists prefix c ≡ 0 → value prefix m a ≡ false
whole_false kept prefix m c a within f none = false_from_ne_true _ (λ t. true≢false (sym (each_start kept prefix m a b within outside t) ∙ false_behind kept prefix m c b f none falsified))
  where
    first : List Lit
    first = among_first kept prefix c

    b : Assignment
    b v = if names first v then against first v else a v

    falsified : clause_true b (among_first kept prefix c) ≡ false
    falsified = against_false b prefix first (fits_fewer (λ l. binds (take kept prefix) l.var.0) prefix c f.fits) (λ v n. rw n)

    outside : SameOutside (take kept prefix) a b
    outside w o = let n : names first w ≡ false = false_from_ne_true _ (λ n. false≢true (sym o ∙ names_pass (λ v. binds (take kept prefix) v) c w n)) in rw n

pub whole_true : (kept : ℕ) (prefix : List Bound) (m : Assignment → Bool) (k : List Lit) (a : Assignment) → kept ≤ first_block Exists prefix → IsFineCube kept prefix m k → last_named All prefix k ≡ 0 → value prefix m a ≡ true
whole_true kept prefix m k a within f none =
    not-false _ (sym (value_dual prefix m a)
    ∙ whole_false kept (dual_prefix prefix) (λ b. not (m b)) (negated_literals k) a (rw (block_dual All prefix) within) (clause_from_cube kept prefix m k f) (last_dual Exists prefix k ∙ none))

-- ---- no literal at all

none_named : (q : Quant) (prefix : List Bound) → last_named q prefix [] ≡ 0
none_named q [] = refl
none_named q (x ∷ prefix) = ap (λ n. up_to n (same_quant x.quant q && false)) (none_named q prefix) ∙ at (same_quant x.quant q)
  where
    at : (t : Bool) → up_to 0 (t && false) ≡ 0
    at true = refl
    at false = refl

settled_behind : (kept : ℕ) (prefix : List Bound) (m : Assignment → Bool) (t : Bool) (a : Assignment) → ((b : Assignment) → value (drop kept prefix) m b ≡ t) → value prefix m a ≡ t
settled_behind kept prefix m t a always =
    ap (λ p. value p m a) (sym (take-append-drop kept prefix))
    ∙ value-append (take kept prefix) (drop kept prefix) m a
    ∙ value_settled t (value (drop kept prefix) m) always (take kept prefix) a

pub false_by_no_literals : (kept : ℕ) (prefix : List Bound) (m : Assignment → Bool) (a : Assignment) → IsFineClause kept prefix m [] → value prefix m a ≡ false
false_by_no_literals kept prefix m a f = settled_behind kept prefix m false a (λ b. false_behind kept prefix m [] b f (none_named Exists prefix) refl)

pub true_by_no_literals : (kept : ℕ) (prefix : List Bound) (m : Assignment → Bool) (a : Assignment) → IsFineCube kept prefix m [] → value prefix m a ≡ true
true_by_no_literals kept prefix m a f = settled_behind kept prefix m true a (λ b. true_behind kept prefix m [] b f (none_named All prefix) refl)
