-- Tests of the numbers of a range.
use Rattle.std.proofs.Common.{◌≡◌, ℕ, zero, suc, ◌+◌, ◌<◌, ◌≤◌, Bool, true, false, ⊎_elim, refl, subst, sym, arith}
use Rattle.std.specs.List.{list_any, range_with_len}
use Rattle.std.proofs.lemmas.Bool.{cases_eq, or_left, or_right, or_from}

pub some_in_range : (p : ℕ → Bool) (first count k : ℕ) → first ≤ k → k < first + count → p k ≡ true → list_any p (range_with_len first count) ≡ true
some_in_range p first zero k low high passes = absurd (omega arith)
some_in_range p first (suc count) k low high passes = ⊎_elim
    (λ here. or_left _ _ (subst (λ n. p n ≡ true) (sym here) passes))
    (λ other. or_right _ _ (some_in_range p (first + 1) count k (omega arith) (omega arith) passes))
    (cases_eq first k)

pub none_in_range : (p : ℕ → Bool) (first count : ℕ) → ((k : ℕ) → first ≤ k → k < first + count → p k ≡ false) → list_any p (range_with_len first count) ≡ false
none_in_range p first zero none = refl
none_in_range p first (suc count) none = or_from _ _
    (none first (omega arith) (omega arith))
    (none_in_range p (first + 1) count (λ k low high. none k (omega arith) (omega arith)))
