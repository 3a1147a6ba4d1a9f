-- How a byte moves the place in a text.
use Rattle.std.proofs.Common.{◌≡◌, ℕ, ◌+◌, ◌<◌, ◌≤◌, Bool, not, List, [], ◌∷◌, length, take, get_or, reverse, refl, arith, add-one, inl, inr}
use Rattle.std.specs.Prelude.{◌==◌}
use Rattle.std.proofs.Math.Seq.{take-suc}
use Rattle.std.proofs.lemmas.Bool.{cases_Bool, ne_eqb}
use Rattle.std.proofs.lemmas.List.{reverse-append, length-reverse, length-take-le}
use Rattle.std.proofs.lemmas.List.Sums.{count_by_more_yes, count_by_more_no}
use Rattle.bddl_model.specs.Tokens.{run_len}
use Rattle.bddl_model.specs.Reading.{place_at}

run_len-le : (p : ℕ → Bool) (xs : List ℕ) → run_len p xs ≤ length xs
run_len-le p [] = omega arith
run_len-le p (x ∷ xs) = elim (cases_Bool (p x)) [
  | inl more ↦ rw more (omega (arith, run_len-le p xs))
  | inr no_more ↦ rw no_more (omega arith)
]

pub column-le : (bytes : List ℕ) (i : ℕ) → i ≤ length bytes → (place_at bytes i).column ≤ i + 1
column-le bytes i le = omega (arith, run_len-le (λ b. not (b == 10)) (reverse (take i bytes)), length-reverse (take i bytes), length-take-le i bytes le)

reverse_take-suc : (bytes : List ℕ) (i : ℕ) → i < length bytes → reverse (take (i + 1) bytes) ≡ get_or bytes i 0 ∷ reverse (take i bytes)
reverse_take-suc bytes i lt = rw (add-one, take-suc bytes i 0 lt) (reverse-append (take i bytes) (get_or bytes i 0 ∷ []))

pub line-after_feed : (bytes : List ℕ) (i : ℕ) → i < length bytes → get_or bytes i 0 ≡ 10 → (place_at bytes (i + 1)).line ≡ (place_at bytes i).line + 1
line-after_feed bytes i lt e = omega (arith, count_by_more_yes (λ b. b == 10) bytes i 0 lt (rw e refl))

pub line-after_other : (bytes : List ℕ) (i : ℕ) → i < length bytes → (get_or bytes i 0 ≡ 10 → ⊥) → (place_at bytes (i + 1)).line ≡ (place_at bytes i).line
line-after_other bytes i lt e = omega (arith, count_by_more_no (λ b. b == 10) bytes i 0 lt (ne_eqb (get_or bytes i 0) 10 e))

pub column-after_feed : (bytes : List ℕ) (i : ℕ) → i < length bytes → get_or bytes i 0 ≡ 10 → (place_at bytes (i + 1)).column ≡ 1
column-after_feed bytes i lt e = rw (reverse_take-suc bytes i lt, e) refl

pub column-after_other : (bytes : List ℕ) (i : ℕ) → i < length bytes → (get_or bytes i 0 ≡ 10 → ⊥) → (place_at bytes (i + 1)).column ≡ (place_at bytes i).column + 1
column-after_other bytes i lt e = rw (reverse_take-suc bytes i lt, ne_eqb (get_or bytes i 0) 10 e) (omega arith)
