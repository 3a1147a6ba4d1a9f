-- Reading a list of tokens from left to right: the value and the tokens behind it, or how many tokens are left where the reading is stuck.
use Rattle.std.specs.Prelude.{ℕ, zero, suc, Bool, true, false, List, [], ◌∷◌, length, Option, Some, None, Result, Ok, Err}

abbrev pub Reader : Type 0 → Type 0 → Type 0
Reader W A = List W → Result (A × List W) ℕ

abbrev pub and_then : {A B : Type 0} → Result A ℕ → (A → Result B ℕ) → Result B ℕ
and_then (Ok x) next = next x
and_then (Err n) next = Err n

-- nothing, for this value
abbrev pub done_at : {W A : Type 0} → A → Reader W A
done_at x ts = Ok (x, ts)

infixl 10 ◌>>=◌
abbrev pub ◌>>=◌ : {W A B : Type 0} → Reader W A → (A → Reader W B) → Reader W B
(first >>= next) ts = and_then (first ts) (λ r. next r.0 r.1)

-- ---- one token

abbrev pub picked : {W A : Type 0} → Option A → List W → Result (A × List W) ℕ
picked None ts = Err (suc (length ts))
picked (Some x) ts = Ok (x, ts)

abbrev pub one_at : {W A : Type 0} → (W → Option A) → Reader W A
one_at meaning [] = Err 0
one_at meaning (t ∷ ts) = picked (meaning t) ts

-- ---- a text that begins with such a token, or nothing, for the value x

abbrev pub optional_from : {W A B : Type 0} → Option B → (B → Reader W A) → A → W → Reader W A
optional_from None next x t ts = Ok (x, t ∷ ts)
optional_from (Some b) next x t ts = next b ts

abbrev pub optional_at : {W A B : Type 0} → (W → Option B) → (B → Reader W A) → A → Reader W A
optional_at sign next x [] = Ok (x, [])
optional_at sign next x (t ∷ ts) = optional_from (sign t) next x t ts

-- ---- items, as long as the next token begins one

-- at most n items, up to where the test says
unfoldable pub many_at : {W A : Type 0} → (List W → Bool) → Reader W A → ℕ → Reader W (List A)
many_at stops item zero ts = Err (length ts)
many_at stops item (suc n) ts = elim (stops ts) [
  | true ↦ Ok ([], ts)
  | false ↦ and_then (item ts) (λ r. and_then (many_at stops item n r.1) (λ rs. Ok (r.0 ∷ rs.0, rs.1)))
]

-- an item has a token, so one turn more than tokens is enough
abbrev pub all_at : {W A : Type 0} → (List W → Bool) → Reader W A → Reader W (List A)
all_at stops item ts = many_at stops item (suc (length ts)) ts

abbrev pub is_nothing : {A : Type 0} → Option A → Bool
is_nothing None = true
is_nothing (Some x) = false

-- no such token is next
abbrev pub lacks : {W B : Type 0} → (W → Option B) → List W → Bool
lacks start [] = true
lacks start (t ∷ ts) = is_nothing (start t)

abbrev pub listed : {W A B : Type 0} → (W → Option B) → Reader W A → Reader W (List A)
listed start item = all_at (lacks start) item

-- ---- the end of the text

abbrev pub end_at : {W A : Type 0} → A → Reader W A
end_at x [] = Ok (x, [])
end_at x (t ∷ ts) = Err (suc (length ts))

abbrev pub ended_at : {W : Type 0} → Reader W (Unit {0})
ended_at = end_at tt
