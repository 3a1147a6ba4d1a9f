-- A resolvent without opposites fits the prefix where both constraints do.
use Rattle.std.proofs.Common.{◌≡◌, ℕ, Bool, true, false, not, ◌||◌, List, [], ◌∷◌, filter, if◌then◌else◌, ⊎_elim, refl, sym, ap, ◌∙◌, eqb-true}
use Rattle.std.specs.Prelude.{◌==◌}
use Rattle.std.proofs.lemmas.Bool.{or_parts, or_from, or_right, false≢true, false_from_ne_true}
use Rattle.std.proofs.lemmas.List.Folds.{list_any-append}
use Rattle.bddl_model.specs.declared.formula.Bound.{Bound}
use Rattle.bddl_model.specs.declared.formula.Lit.{Lit}
use Rattle.bddl_model.specs.Truth.{negation}
use Rattle.bddl_model.specs.Forms.{FitsPrefix, same_literal, has_literal}
use Rattle.bddl_model.specs.Resolution.{NoOpposites, without, joined, resolvent}
use Rattle.bddl_laws.proofs.Fitting.{names, fits_fewer, fits-append}
use Rattle.bddl_laws.proofs.Literals.{has_first, has_either}

-- a variable of the left has no literal among those that the right adds
not_again : (c d : List Lit) (v : ℕ) → ((m : Lit) → has_literal (filter (λ m. not (has_literal c m)) d) m ≡ true → has_literal c (negation m) ≡ false) → names c v ≡ true → names (filter (λ m. not (has_literal c m)) d) v ≡ false
not_again c [] v alone n = refl
not_again c (x ∷ d) v alone n = at (has_literal c x) refl alone (λ h. not_again c d v h n)
  where
    at : (t : Bool) → has_literal c x ≡ t
        → ((m : Lit) → has_literal (if not t then (x ∷ filter (λ m. not (has_literal c m)) d) else filter (λ m. not (has_literal c m)) d) m ≡ true → has_literal c (negation m) ≡ false)
        → (((m : Lit) → has_literal (filter (λ m. not (has_literal c m)) d) m ≡ true → has_literal c (negation m) ≡ false) → names (filter (λ m. not (has_literal c m)) d) v ≡ false)
        → names (if not t then (x ∷ filter (λ m. not (has_literal c m)) d) else filter (λ m. not (has_literal c m)) d) v ≡ false
    at true e alone next = next alone
    at false e alone next = or_from _ _ (false_from_ne_true (x.var.0 == v) other_variable) (next (λ m h. alone m (or_right _ _ h)))
      where
        other_variable : (x.var.0 == v) ≡ true → ⊥
        other_variable i = ⊎_elim (λ h. false≢true (sym e ∙ h)) (λ h. false≢true (sym (alone x (has_first x _)) ∙ h)) (has_either c x (ap (names c) (eqb-true x.var.0 v i) ∙ n))

pub joined_fits : (prefix : List Bound) (c d : List Lit) → FitsPrefix prefix c → FitsPrefix prefix d → NoOpposites (joined c d) → FitsPrefix prefix (joined c d)
joined_fits prefix c d f g alone = fits-append prefix c (filter (λ m. not (has_literal c m)) d) f (fits_fewer (λ m. not (has_literal c m)) prefix d g) (λ v n. not_again c d v left_alone n)
  where
    parted : (l : Lit) → has_literal (joined c d) l ≡ (has_literal c l || has_literal (filter (λ m. not (has_literal c m)) d) l)
    parted l = list_any-append (same_literal l) c (filter (λ m. not (has_literal c m)) d)

    left_alone : (m : Lit) → has_literal (filter (λ m. not (has_literal c m)) d) m ≡ true → has_literal c (negation m) ≡ false
    left_alone m h = (or_parts _ _ (sym (parted (negation m)) ∙ alone m (parted m ∙ or_right _ _ h))).0

pub resolvent_fits_prefix : (prefix : List Bound) (v : ℕ) (left right : List Lit) → FitsPrefix prefix left → FitsPrefix prefix right → NoOpposites (resolvent v left right) → FitsPrefix prefix (resolvent v left right)
resolvent_fits_prefix prefix v left right f g alone =
    joined_fits prefix (without v left) (without v right) (fits_fewer (λ l. not (l.var.0 == v)) prefix left f) (fits_fewer (λ l. not (l.var.0 == v)) prefix right g) alone
