-- A value that is true can be played to the end, with any values of the universal variables.
use Rattle.std.proofs.Common.{◌≡◌, ℕ, zero, suc, Bool, true, false, ◌&&◌, ◌||◌, List, [], ◌∷◌, drop, ◌⊎◌, inl, inr, ⊎_elim, refl, sym, ap, ◌∙◌, eqb-true}
use Rattle.std.specs.Prelude.{◌==◌}
use Rattle.std.proofs.lemmas.Bool.{or_cases, and_parts, false≢true}
use Rattle.bddl_model.specs.declared.formula.Quant.{Quant}
use Rattle.bddl_model.specs.declared.formula.Quant.TheVariants.{Exists, All}
use Rattle.bddl_model.specs.declared.formula.Bound.{Bound}
use Rattle.bddl_model.specs.Truth.{Assignment, assign, value}
use Rattle.bddl_model.specs.Forms.{prefix_variables, AllApart}
use Rattle.bddl_model.specs.FormulaText.{same_quant}
use Rattle.bddl_model.proofs.Assignments.{SameOutside, assign_same, outside_assign, value_same}
use Rattle.bddl_laws.proofs.Places.{binds_by}

-- b goes on from a to the end: the value stays true, and the universal variables are those of t
pub record Played (rest : List Bound) (m : Assignment → Bool) (t a b : Assignment) : Type 0 where
  pub same : SameOutside rest a b
  pub won : (j : ℕ) → value (drop j rest) m b ≡ true
  pub free : (v : ℕ) → binds_by All rest v ≡ true → b v ≡ t v

won_cons : (x : Bound) (rest : List Bound) (m : Assignment → Bool) (b : Assignment) → value (x ∷ rest) m b ≡ true → ((j : ℕ) → value (drop j rest) m b ≡ true) → (j : ℕ) → value (drop j (x ∷ rest)) m b ≡ true
won_cons x rest m b h w zero = h
won_cons x rest m b h w (suc j) = w j

bound_later : (x : Bound) (rest : List Bound) (v : ℕ) → x.quant ≡ Exists → binds_by All (x ∷ rest) v ≡ true → binds_by All rest v ≡ true
bound_later x rest v e h = ⊎_elim (λ p. absurd (false≢true (sym (ap (λ q. same_quant q All) e) ∙ (and_parts (x.var.0 == v) _ p).1))) (λ p. p) (or_cases (x.var.0 == v && same_quant x.quant All) (binds_by All rest v) h)

pub extend : (rest : List Bound) (m : Assignment → Bool) (t a : Assignment) → AllApart (prefix_variables rest) → value rest m a ≡ true → (b : Assignment) × Played rest m t a b
extend [] m t a d h = (a, record { same = λ w o. refl; won = λ j. won j; free = λ v e. absurd (false≢true e) })
  where
    won : (j : ℕ) → value (drop j []) m a ≡ true
    won zero = h
    won (suc j) = h
extend (x ∷ rest) m t a d h = by_quantifier x.quant refl (λ v w. extend rest m t (assign x.var.0 v a) d.1 w)
  where
    step : (v : Bool) → ((w : ℕ) → binds_by All (x ∷ rest) w ≡ true → (binds_by All rest w ≡ true) ⊎ ((x.var.0 ≡ w) × (v ≡ t w))) → (b : Assignment) × Played rest m t (assign x.var.0 v a) b → (b : Assignment) × Played (x ∷ rest) m t a b
    step v f (b, p) =
        let same = outside_assign x rest v a b p.same in (
          b,
          record {
            same = same;
            won = won_cons x rest m b (sym (value_same (x ∷ rest) m a b same) ∙ h) p.won;
            free = λ w e. ⊎_elim (λ i. p.free w i) (λ i. sym (ap b i.0) ∙ sym (p.same x.var.0 d.0) ∙ assign_same x.var.0 v a ∙ i.1) (f w e);
          },
        )

    here : (w : ℕ) → binds_by All (x ∷ rest) w ≡ true → (binds_by All rest w ≡ true) ⊎ ((x.var.0 ≡ w) × (t x.var.0 ≡ t w))
    here w e = ⊎_elim (λ i. let e = eqb-true x.var.0 w (and_parts _ _ i).0 in inr (e, ap t e)) (λ i. inl i) (or_cases (x.var.0 == w && same_quant x.quant All) (binds_by All rest w) e)

    by_quantifier : (q : Quant) → x.quant ≡ q → ((v : Bool) → value rest m (assign x.var.0 v a) ≡ true → (b : Assignment) × Played rest m t (assign x.var.0 v a) b) → (b : Assignment) × Played (x ∷ rest) m t a b
    by_quantifier Exists e next =
        let some : (value rest m (assign x.var.0 true a) || value rest m (assign x.var.0 false a)) ≡ true = rw e at h in
        ⊎_elim (λ i. step true (λ w o. inl (bound_later x rest w e o)) (next true i))
        (λ i. step false (λ w o. inl (bound_later x rest w e o)) (next false i)) (or_cases _ _ some)
    by_quantifier All e next =
        let each : (value rest m (assign x.var.0 true a) && value rest m (assign x.var.0 false a)) ≡ true = rw e at h in
        let won : value rest m (assign x.var.0 (t x.var.0) a) ≡ true = both (t x.var.0) (and_parts _ _ each) in
        step (t x.var.0) here (next (t x.var.0) won)
      where
        both : (v : Bool) → (value rest m (assign x.var.0 true a) ≡ true) × (value rest m (assign x.var.0 false a) ≡ true) → value rest m (assign x.var.0 v a) ≡ true
        both true h = h.0
        both false h = h.1
