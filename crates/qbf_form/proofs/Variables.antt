-- Variables that stand apart: how many there are at most, and that they keep their number in another order.
use Rattle.std.proofs.Common.{◌≡◌, ℕ, zero, suc, ◌+◌, ◌≤◌, ◌<◌, true, false, ◌||◌, List, [], ◌∷◌, length, inl, inr, refl, sym, ap₂, ◌∙◌, arith, eqb-true, ne_eqb}
use Rattle.std.specs.Prelude.{◌==◌, nat_eq}
use Rattle.std.specs.List.{IsDistinct, AllByRecursion, list_any}
use Rattle.std.specs.Set.{is_member}
use Rattle.std.proofs.lemmas.Bool.{or_parts, or_from, or_cases}
use Rattle.std.proofs.lemmas.Cmp.{nat_eq_equiv}
use Rattle.std.proofs.lemmas.Map.Made.{length-le_from_is_member}
use Rattle.std.proofs.lemmas.Map.Steps.{length-le_from_distinct_below}
use Rattle.bddl_model.specs.Forms.{has_number, in_range, AllInRange, AllApart, AllAmong}
use Rattle.bddl_model.proofs.Assignments.{eqb_turned}
use Rattle.bddl_model.proofs.NumberLists.{one_passes}
use Rattle.bddl_model.proofs.PlainTokens.{in_range_is}

apart_is_distinct : (vs : List ℕ) → AllApart vs → IsDistinct nat_eq vs
unfolding IsDistinct
apart_is_distinct [] apart = tt
apart_is_distinct (v ∷ vs) apart = (others v vs apart.0, apart_is_distinct vs apart.1)
  where
    others : (v : ℕ) (ws : List ℕ) → has_number ws v ≡ false → AllByRecursion (λ y. nat_eq v y ≡ false) ws
    others v [] h = tt
    others v (w ∷ ws) h =
        let parts = or_parts (w == v) (has_number ws v) h in
        (eqb_turned w v parts.0, others v ws parts.1)

pub number_is_member : (vs : List ℕ) (v : ℕ) → is_member nat_eq vs v ≡ has_number vs v
number_is_member [] v = refl
number_is_member (w ∷ ws) v = ap₂ (λ x y. x || y) (nat_eq_equiv.symm v w) (number_is_member ws v)

pub few_among : (ws vs : List ℕ) → AllApart vs → AllAmong ws vs → length vs ≤ length ws
few_among ws vs apart among = length-le_from_is_member nat_eq_equiv vs ws (apart_is_distinct vs apart)
    (λ q h. number_is_member ws q ∙ one_passes (has_number ws) vs q among (sym (number_is_member vs q) ∙ h))

no_zero : (most : ℕ) (vs : List ℕ) → AllInRange most vs → has_number vs 0 ≡ false
no_zero most [] range = refl
no_zero most (zero ∷ vs) range = absurd (let low = (in_range_is most 0 range.0).0 in omega arith)
no_zero most (suc v ∷ vs) range = or_from (suc v == 0) (has_number vs 0) (ne_eqb (suc v) 0 (λ e. absurd (omega arith))) (no_zero most vs range.1)

-- with zero before them they are numbers up to the greatest
pub few_in_range : (most : ℕ) (vs : List ℕ) → AllInRange most vs → AllApart vs → length vs ≤ most
few_in_range most vs range apart =
    let all : suc (length vs) ≤ most + 1 = length-le_from_distinct_below (0 ∷ vs) (most + 1) (apart_is_distinct (0 ∷ vs) (no_zero most vs range, apart)) below in
    omega arith
  where
    below : (q : ℕ) → list_any (nat_eq q) (0 ∷ vs) ≡ true → q < most + 1
    below q h = elim (or_cases (nat_eq 0 q) (has_number vs q) (sym (number_is_member (0 ∷ vs) q) ∙ h)) [
      | inl here ↦ (let same = eqb-true 0 q here in omega arith)
      | inr later ↦ (let high = (in_range_is most q (one_passes (in_range most) vs q range later)).1 in omega arith)
    ]
