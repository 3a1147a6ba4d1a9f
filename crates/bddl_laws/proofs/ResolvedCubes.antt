-- A resolvent of two fine cubes is fine, since its negation is the resolvent of their negations.
use Rattle.std.proofs.Common.{◌≡◌, ℕ, Bool, not, List, [], ◌∷◌, ◌++◌, filter, refl, sym, ap, ap₂, ◌∙◌, subst}
use Rattle.std.specs.Prelude.{◌==◌}
use Rattle.bddl_model.specs.declared.formula.Bound.{Bound}
use Rattle.bddl_model.specs.declared.formula.Lit.{Lit}
use Rattle.bddl_model.specs.Truth.{Assignment, negation}
use Rattle.bddl_model.specs.Forms.{prefix_variables, AllApart, has_literal}
use Rattle.bddl_model.specs.Fine.{IsFineCube}
use Rattle.bddl_model.specs.Resolution.{NoOpposites, without, joined, resolvent, OneSign}
use Rattle.bddl_model.specs.Dual.{dual_prefix, negated_literals}
use Rattle.bddl_laws.proofs.Duality.{apart_dual, fits_dual, filter_negated, clause_from_cube, cube_from_clause}
use Rattle.bddl_laws.proofs.Literals.{has_both_negated, sign_negated}
use Rattle.bddl_laws.proofs.Survival.{Survives, survives_from_fine, fine_from_survives}
use Rattle.bddl_laws.proofs.Resolvents.{resolvent_fits_prefix}
use Rattle.bddl_laws.proofs.Resolution.{survives_resolved}

negated-append : (c d : List Lit) → negated_literals (c ++ d) ≡ negated_literals c ++ negated_literals d
negated-append [] d = refl
negated-append (l ∷ c) d = ap (λ r. negation l ∷ r) (negated-append c d)

resolvent_negated : (v : ℕ) (c d : List Lit) → resolvent v (negated_literals c) (negated_literals d) ≡ negated_literals (resolvent v c d)
resolvent_negated v c d =
    ap₂ joined (others c) (others d)
    ∙ ap (λ r. negated_literals (without v c) ++ r) (filter_negated (λ l. not (has_literal (negated_literals (without v c)) l)) (λ l. not (has_literal (without v c) l)) (without v d) (λ l. ap not (has_both_negated (without v c) l)))
    ∙ sym (negated-append (without v c) (filter (λ l. not (has_literal (without v c) l)) (without v d)))
  where
    others : (c : List Lit) → without v (negated_literals c) ≡ negated_literals (without v c)
    others c = filter_negated (λ l. not (l.var.0 == v)) (λ l. not (l.var.0 == v)) c (λ l. refl)

pub fine_resolved_cube : (kept : ℕ) (prefix : List Bound) (m : Assignment → Bool) (v : ℕ) (n : Bool) (left right : List Lit) → AllApart (prefix_variables prefix) → IsFineCube kept prefix m left → IsFineCube kept prefix m right → OneSign v n left → OneSign v (not n) right → NoOpposites (resolvent v left right) → IsFineCube kept prefix m (resolvent v left right)
fine_resolved_cube kept prefix m v n left right d f g p q alone =
    cube_from_clause kept prefix m (resolvent v left right) (fine_from_survives kept (dual_prefix prefix) (λ a. not (m a)) (negated_literals (resolvent v left right)) (apart_dual prefix d)
    (fits_dual prefix (resolvent v left right) (resolvent_fits_prefix prefix v left right f.fits g.fits alone))
    (subst (Survives kept (dual_prefix prefix) (λ a. not (m a))) (resolvent_negated v left right)
    (survives_resolved kept (dual_prefix prefix) (λ a. not (m a)) v (not n) (negated_literals left) (negated_literals right) (sign_negated v n left p) (sign_negated v (not n) right q)
    (survives_from_fine kept (dual_prefix prefix) (λ a. not (m a)) (negated_literals left) (clause_from_cube kept prefix m left f))
    (survives_from_fine kept (dual_prefix prefix) (λ a. not (m a)) (negated_literals right) (clause_from_cube kept prefix m right g)))))
