-- Walks over a range of numbers that give nothing outside of a part of it.
use Rattle.std.proofs.Common.{◌≡◌, ℕ, zero, suc, ◌+◌, ◌-◌, ◌*◌, ◌≤◌, ◌<◌, Bool, true, false, cond, List, [], ◌∷◌, ◌++◌, map, length, refl, ap, ap₂, ◌∙◌, arith}
use Rattle.std.specs.Prelude.{filter, flat_map}
use Rattle.std.specs.List.{range_with_len}
use Rattle.std.proofs.lemmas.List.{append-nil}
use Rattle.std.proofs.lemmas.List.Concat.{flat_map-append}
use Rattle.std.proofs.lemmas.List.Elements.{filter-append}

range_split : (a m n : ℕ) → range_with_len a (m + n) ≡ range_with_len a m ++ range_with_len (a + m) n
range_split a zero n =
    let start : a ≡ a + 0 = omega arith in
    let count : 0 + n ≡ n = omega arith in
    ap₂ range_with_len start count
range_split a (suc m) n =
    let count : suc m + n ≡ suc (m + n) = omega arith in
    let start : a + 1 + m ≡ a + suc m = omega arith in
    ap (range_with_len a) count ∙ ap (λ (l : List ℕ). a ∷ l) (range_split (a + 1) m n ∙ ap (λ b. range_with_len (a + 1) m ++ range_with_len b n) start)

pub nothing_in_range : {X : Type 0} (f : ℕ → List X) (a n : ℕ) → ((k : ℕ) → a ≤ k → k < a + n → f k ≡ []) → flat_map f (range_with_len a n) ≡ []
nothing_in_range f a zero h = refl
nothing_in_range f a (suc n) h = ap₂ (λ (xs ys : List _). xs ++ ys) (h a (omega arith) (omega arith)) (nothing_in_range f (a + 1) n (λ k low high. h k (omega arith) (omega arith)))

pub same_in_range : {X : Type 0} (f g : ℕ → List X) (a n : ℕ) → ((k : ℕ) → a ≤ k → k < a + n → f k ≡ g k) → flat_map f (range_with_len a n) ≡ flat_map g (range_with_len a n)
same_in_range f g a zero h = refl
same_in_range f g a (suc n) h = ap₂ (λ (xs ys : List _). xs ++ ys) (h a (omega arith) (omega arith)) (same_in_range f g (a + 1) n (λ k low high. h k (omega arith) (omega arith)))

part_of_range : {X : Type 0} (f : ℕ → List X) (before count behind : ℕ) → ((k : ℕ) → k < 1 + before → f k ≡ []) → ((k : ℕ) → before + count < k → f k ≡ [])
    → flat_map f (range_with_len 1 (before + (count + behind))) ≡ flat_map f (range_with_len (1 + before) count)
part_of_range f before count behind none_before none_behind =
    ap (flat_map f) (range_split 1 before (count + behind) ∙ ap (λ (l : List ℕ). range_with_len 1 before ++ l) (range_split (1 + before) count behind))
    ∙ flat_map-append f (range_with_len 1 before) _
    ∙ ap₂ (λ (xs ys : List _). xs ++ ys) (nothing_in_range f 1 before (λ k low high. none_before k (omega arith))) (flat_map-append f (range_with_len (1 + before) count) _)
    ∙ ap (λ (l : List _). flat_map f (range_with_len (1 + before) count) ++ l) (nothing_in_range f (1 + before + count) behind (λ k low high. none_behind k (omega arith)))
    ∙ append-nil _

pub within_range : {X : Type 0} (f : ℕ → List X) (low high side : ℕ) → 1 ≤ low → low ≤ high → high ≤ side → ((k : ℕ) → k < low → f k ≡ []) → ((k : ℕ) → high < k → f k ≡ [])
    → flat_map f (range_with_len 1 side) ≡ flat_map f (range_with_len low (high + 1 - low))
within_range f low high side first some last none_before none_behind =
    let whole : side ≡ (low - 1) + ((high + 1 - low) + (side - high)) = omega arith in
    let start : 1 + (low - 1) ≡ low = omega arith in
    ap (λ n. flat_map f (range_with_len 1 n)) whole
    ∙ part_of_range f (low - 1) (high + 1 - low) (side - high) (λ k below. none_before k (omega arith)) (λ k above. none_behind k (omega arith))
    ∙ ap (λ a. flat_map f (range_with_len a (high + 1 - low))) start

-- ---- filters of such walks

pub filter-flat_map : {X Y : Type 0} (p : Y → Bool) (f : X → List Y) (xs : List X) → filter p (flat_map f xs) ≡ flat_map (λ x. filter p (f x)) xs
filter-flat_map p f [] = refl
filter-flat_map p f (x ∷ xs) = filter-append p (f x) (flat_map f xs) ∙ ap (λ (l : List _). filter p (f x) ++ l) (filter-flat_map p f xs)

pub filter-map : {X Y : Type 0} (p : Y → Bool) (f : X → Y) (xs : List X) → filter p (map f xs) ≡ flat_map (λ x. cond (p (f x)) (f x ∷ []) []) xs
filter-map p f [] = refl
filter-map p f (x ∷ xs) = one (p (f x)) (filter-map p f xs)
  where
    one : (b : Bool) → filter p (map f xs) ≡ flat_map (λ x. cond (p (f x)) (f x ∷ []) []) xs → cond b (f x ∷ filter p (map f xs)) (filter p (map f xs)) ≡ cond b (f x ∷ []) [] ++ flat_map (λ x. cond (p (f x)) (f x ∷ []) []) xs
    one true e = ap (λ (l : List _). f x ∷ l) e
    one false e = e

pub few_pass : {X : Type 0} (p : X → Bool) (xs : List X) → length (filter p xs) ≤ length xs
few_pass p [] = omega arith
few_pass p (x ∷ xs) = one (p x) (few_pass p xs)
  where
    one : (b : Bool) → length (filter p xs) ≤ length xs → length (cond b (x ∷ filter p xs) (filter p xs)) ≤ length (x ∷ xs)
    one true le = omega arith
    one false le = omega arith

-- ---- room for so many parts, each of so many

pub first_has_room : (had parts each room : ℕ) → 1 ≤ parts → had + parts * each ≤ room → had + each ≤ room
first_has_room had zero each room some h = absurd (omega (arith, some))
first_has_room had (suc left) each room some h = omega (arith, h)

pub others_have_room : (had has parts left each room : ℕ) → parts ≡ suc left → has ≤ had + each → had + parts * each ≤ room → has + left * each ≤ room
others_have_room had has parts left each room more grown h = omega (arith, ap (λ n. n * each) more, grown, h)
