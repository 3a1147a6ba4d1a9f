-- Texts that are added one behind the other.
use Rattle.std.proofs.Common.{◌≡◌, ℕ, ◌+◌, ◌-◌, ◌<◌, ◌≤◌, List, [], ◌∷◌, ◌++◌, length, take, drop, map, sym, ap, ◌∙◌, append_assoc, arith}
use Rattle.std.specs.Prelude.{codes}
use Rattle.std.specs.List.{flat_map, slice_index_or}
use Rattle.std.proofs.lemmas.List.{append-nil, drop_more, take_rest}
use Rattle.bddl_model.specs.FormulaText.{joined}
use Rattle.bddl_model.specs.Canonical.{listed}

pub behind : (base xs ys last now : List ℕ) → last ≡ base ++ xs → now ≡ last ++ ys → now ≡ base ++ (xs ++ ys)
behind base xs ys last now before is = is ∙ ap (λ t. t ++ ys) before ∙ append_assoc base xs ys

-- four texts
pub four_pushed : (base a b c d one two three now : List ℕ) → one ≡ base ++ a → two ≡ one ++ b → three ≡ two ++ c → now ≡ three ++ d → now ≡ base ++ (a ++ (b ++ (c ++ d)))
four_pushed base a b c d one two three now is_one is_two is_three is = rw (is, is_three, is_two, is_one) (simp append_assoc)

pub five_pushed : (base a b c d e one two three four now : List ℕ) → one ≡ base ++ a → two ≡ one ++ b → three ≡ two ++ c → four ≡ three ++ d → now ≡ four ++ e → now ≡ base ++ (a ++ (b ++ (c ++ (d ++ e))))
five_pushed base a b c d e one two three four now is_one is_two is_three is_four is = rw (is, is_four, is_three, is_two, is_one) (simp append_assoc)

-- the first, and each other behind a space
joined-first : {A : Type 0} (text_of : A → List ℕ) (x : A) (xs : List A) → joined (map text_of (x ∷ xs)) ≡ text_of x ++ flat_map (λ a. codes " " ++ text_of a) xs
joined-first text_of x [] = sym (append-nil (text_of x))
joined-first text_of x (y ∷ ys) = ap (λ t. text_of x ++ 32 ∷ t) (joined-first text_of y ys)

pub listed_pushed : {A : Type 0} (text_of : A → List ℕ) (xs : List A) (first : A) → 1 ≤ length xs → first ≡ slice_index_or xs 0 first → (before opened one more now : List ℕ)
    → opened ≡ before ++ 40 ∷ [] → one ≡ opened ++ text_of first → more ≡ one ++ flat_map (λ a. codes " " ++ text_of a) (take (length xs - 1) (drop 1 xs)) → now ≡ more ++ 41 ∷ []
    → now ≡ before ++ listed (map text_of xs)
listed_pushed text_of [] first some is before opened one more now is_opened is_one is_more is_now = absurd (omega arith)
listed_pushed text_of (x ∷ xs) first some is before opened one more now is_opened is_one is_more is_now =
    rw (is_now, is_more, is_one, is_opened, is, take_rest (x ∷ xs) 1, joined-first text_of x xs) (simp append_assoc)

-- one more of what is left
pub next_pushed : {A : Type 0} (text_of : A → List ℕ) (xs : List A) (i : ℕ) (item : A) → i < length xs → item ≡ slice_index_or xs i item → (so_far now all : List ℕ)
    → so_far ++ flat_map text_of (drop i xs) ≡ all → now ≡ so_far ++ text_of item → now ++ flat_map text_of (drop (i + 1) xs) ≡ all
next_pushed text_of xs i item within is so_far now all left is_now =
    ap (λ t. t ++ flat_map text_of (drop (i + 1) xs)) is_now ∙ append_assoc so_far (text_of item) (flat_map text_of (drop (i + 1) xs))
    ∙ ap (λ t. so_far ++ t) (ap (λ x. text_of x ++ flat_map text_of (drop (i + 1) xs)) is ∙ sym (ap (flat_map text_of) (drop_more xs i item within))) ∙ left
