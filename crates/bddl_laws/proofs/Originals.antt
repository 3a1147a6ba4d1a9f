-- What the test implies is a fine clause, and what implies the test a fine cube.
use Rattle.std.proofs.Common.{◌≡◌, ℕ, ◌+◌, Bool, true, not, List, [], ◌∷◌, length, sym, ap, ◌∙◌, subst, arith}
use Rattle.std.proofs.lemmas.List.{drop_all}
use Rattle.std.proofs.lemmas.Bool.{and_parts, false≢true, not-true, false_from_ne_true}
use Rattle.std.specs.List.{AllByRecursion}
use Rattle.bddl_model.specs.declared.formula.Bound.{Bound}
use Rattle.bddl_model.specs.declared.formula.Lit.{Lit}
use Rattle.bddl_model.specs.Truth.{Assignment, Formula, value, clause_true, clauses_true}
use Rattle.bddl_model.specs.Forms.{prefix_variables, AllApart, FitsPrefix, AllFitPrefix, IsForm}
use Rattle.bddl_model.specs.Fine.{cube_true, IsFineClause, IsFineCube, FineClauseOf}
use Rattle.bddl_laws.proofs.Survival.{Survives, fine_from_survives}
use Rattle.bddl_model.specs.Dual.{dual_prefix, negated_literals}
use Rattle.bddl_laws.proofs.Duality.{apart_dual, fits_dual, clause_negated, cube_from_clause}

survives_implied : (kept : ℕ) (prefix : List Bound) (m : Assignment → Bool) (c : List Lit) → ((a : Assignment) → m a ≡ true → clause_true a c ≡ true) → Survives kept prefix m c
survives_implied kept prefix m c h = record { holds = λ a st. h a (subst (λ l. value l m a ≡ true) (drop_all (kept + length prefix) prefix (omega arith)) (st (kept + length prefix) (omega arith))) }

pub fine_implied : (kept : ℕ) (prefix : List Bound) (m : Assignment → Bool) (c : List Lit) → AllApart (prefix_variables prefix) → FitsPrefix prefix c → ((a : Assignment) → m a ≡ true → clause_true a c ≡ true) → IsFineClause kept prefix m c
fine_implied kept prefix m c d f h = fine_from_survives kept prefix m c d f (survives_implied kept prefix m c h)

-- ---- the clauses of a form

fine_each : (kept : ℕ) (prefix : List Bound) (m : Assignment → Bool) (cs : List (List Lit)) → AllApart (prefix_variables prefix) → AllFitPrefix prefix cs → ((a : Assignment) → m a ≡ true → clauses_true cs a ≡ true) → AllByRecursion (IsFineClause kept prefix m) cs
fine_each kept prefix m [] d f h = tt
fine_each kept prefix m (c ∷ cs) d f h = (
  fine_implied kept prefix m c d f.0 (λ a t. (and_parts (clause_true a c) (clauses_true cs a) (h a t)).0),
  fine_each kept prefix m cs d f.1 (λ a t. (and_parts (clause_true a c) (clauses_true cs a) (h a t)).1),
)

pub fine_originals : (kept : ℕ) (f : Formula) → IsForm f → AllByRecursion (FineClauseOf kept f) f.clauses
fine_originals kept f i = fine_each kept f.prefix (clauses_true f.clauses) f.clauses i.apart i.clauses (λ a t. t)

-- ---- a first cube

pub fine_first_cube : (kept : ℕ) (prefix : List Bound) (m : Assignment → Bool) (k : List Lit) → AllApart (prefix_variables prefix) → FitsPrefix prefix k → ((a : Assignment) → cube_true a k ≡ true → m a ≡ true) → IsFineCube kept prefix m k
fine_first_cube kept prefix m k d f h =
    cube_from_clause kept prefix m k (fine_implied kept (dual_prefix prefix) (λ a. not (m a)) (negated_literals k) (apart_dual prefix d) (fits_dual prefix k f) negation_implied)
  where
    negation_implied : (a : Assignment) → not (m a) ≡ true → clause_true a (negated_literals k) ≡ true
    negation_implied a e = clause_negated a k ∙ ap not (false_from_ne_true (cube_true a k) (λ t. false≢true (sym (not-true (m a) e) ∙ h a t)))
