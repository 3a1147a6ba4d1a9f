-- Steps of one cell at most, in machine numbers.
use Rattle.std.proofs.Common.{◌≡◌, ℤ, pos, negsuc, ◌*ℤ◌, [], ◌∷◌, to_z, of_z, w32, inl, inr, refl, subst, sym}
use Rattle.bddl_model.specs.declared.game.Mark.{Mark}
use Rattle.bddl_make.specs.Steps.{IsStep}
use Rattle.bddl_model.specs.Trial.{five, test_at}

-- what holds of all steps
each_step : (P : ℤ → Type 0) (z : ℤ) → IsStep z → P (negsuc 0) → P (pos 0) → P (pos 1) → P z
each_step P z (inl e) back still ahead = subst P (sym e) back
each_step P z (inr (inl e)) back still ahead = subst P (sym e) still
each_step P z (inr (inr e)) back still ahead = subst P (sym e) ahead

abbrev machine : ℤ → ℤ
machine z = to_z w32 (of_z w32 z)

pub machine_five : (mark : Mark) (x y : ℤ) → IsStep x → IsStep y
    → test_at mark (pos 0) (pos 0) ∷ test_at mark (machine x) (machine y) ∷ test_at mark (machine (pos 2 *ℤ machine x)) (machine (pos 2 *ℤ machine y)) ∷ test_at mark (machine (pos 3 *ℤ machine x)) (machine (pos 3 *ℤ machine y)) ∷ test_at mark (machine (pos 4 *ℤ machine x)) (machine (pos 4 *ℤ machine y)) ∷ [] ≡ five mark x y
machine_five mark x y nx ny =
    let P : ℤ → ℤ → Type 0 = λ x y. test_at mark (pos 0) (pos 0) ∷ test_at mark (machine x) (machine y) ∷ test_at mark (machine (pos 2 *ℤ machine x)) (machine (pos 2 *ℤ machine y)) ∷ test_at mark (machine (pos 3 *ℤ machine x)) (machine (pos 3 *ℤ machine y)) ∷ test_at mark (machine (pos 4 *ℤ machine x)) (machine (pos 4 *ℤ machine y)) ∷ [] ≡ five mark x y in
    each_step (λ x. P x y) x nx (each_step (λ y. P (negsuc 0) y) y ny refl refl refl) (each_step (λ y. P (pos 0) y) y ny refl refl refl) (each_step (λ y. P (pos 1) y) y ny refl refl refl)
