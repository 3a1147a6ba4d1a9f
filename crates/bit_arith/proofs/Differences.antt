-- The difference of two words is the sum of one and the opposite bits of the other, and one.
use Rattle.std.proofs.Common.{◌≡◌, ℕ, ◌<◌, ◌+◌, ◌*◌, ◌/◌, ◌%◌, ◌^◌, Bool, true, false, not, List, [], ◌∷◌, ◌++◌, length, map, drop, get_or, ◌==◌, refl, sym, ap, ◌∙◌, arith, pow-suc}
use Rattle.std.proofs.lemmas.Bool.Decides.{nat_tests}
use Rattle.std.proofs.lemmas.List.{get_or-map, length-map, map-append, drop_all}
use Rattle.bddl_model.specs.declared.circuit.Wire.{Wire}
use Rattle.bddl_model.specs.Truth.{Assignment}
use Rattle.bddl_model.specs.Circuit.{Circuit, holds}
use Rattle.bddl_model.specs.Growth.{Grows}
use Rattle.bddl_model.specs.Words.{AreWires, word_bits, number_of_bits, word_value}
use Rattle.bddl_model.proofs.WireItems.{item_wire}
use Rattle.bddl_model.proofs.WireWords.{word_kept}
use Rattle.bit_arith.specs.Digits.{digit}
use Rattle.bit_arith.proofs.Adding.{number-drop, number-push}
use Rattle.bit_arith.proofs.Turns.{sum_word_turn}

pub opposites : (bs : List Bool) → number_of_bits (map not bs) + number_of_bits bs + 1 ≡ 2 ^ length bs
opposites [] = refl
opposites (true ∷ bs) = rw (pow-suc 2 (length bs)) (omega (arith, opposites bs))
opposites (false ∷ bs) = rw (pow-suc 2 (length bs)) (omega (arith, opposites bs))

-- the first bit of what is left, and the others
pub first_bit : (bs : List Bool) (i : ℕ) → (number_of_bits (drop i bs) % 2 == 1) ≡ get_or bs i false
first_bit bs i = at (get_or bs i false) (number_of_bits (drop (i + 1) bs)) (number_of_bits (drop i bs)) (number-drop bs i)
  where
    at : (b : Bool) (rest n : ℕ) → n ≡ digit b + 2 * rest → (n % 2 == 1) ≡ b
    at true rest n e = grind (arith, nat_tests)
    at false rest n e = grind (arith, nat_tests)

pub other_bits : (bs : List Bool) (i : ℕ) → number_of_bits (drop i bs) / 2 ≡ number_of_bits (drop (i + 1) bs)
other_bits bs i = at (get_or bs i false) (number_of_bits (drop (i + 1) bs)) (number_of_bits (drop i bs)) (number-drop bs i)
  where
    at : (b : Bool) (rest n : ℕ) → n ≡ digit b + 2 * rest → n / 2 ≡ rest
    at true rest n e = omega arith
    at false rest n e = omega arith

-- ---- bits of words

bit_at : (most i : ℕ) (old new : Circuit) (ws : List Wire) (d : Wire) (a : Assignment) → Grows most old new → AreWires old ws → i < length ws
    → holds new (get_or ws i d) a ≡ get_or (word_bits old ws a) i false
bit_at most i old new ws d a g are lt = g.kept (get_or ws i d) a (item_wire old ws i d are lt) ∙ sym (get_or-map (λ w. holds old w a) ws i d false lt)

opposite_at : (most i : ℕ) (old new : Circuit) (ws : List Wire) (d : Wire) (a : Assignment) → Grows most old new → AreWires old ws → i < length ws
    → not (holds new (get_or ws i d) a) ≡ get_or (map not (word_bits old ws a)) i false
opposite_at most i old new ws d a g are lt =
    ap not (bit_at most i old new ws d a g are lt) ∙ sym (get_or-map not (word_bits old ws a) i false false (omega (arith, length-map ws (λ w. holds old w a), lt)))

-- one digit more of the difference of two words
pub difference_turn : (most i : ℕ) (old new after : Circuit) (left right digits all : List Wire) (d e opposite carry s t : Wire) (total : ℕ) (a : Assignment)
    → Grows most old new → AreWires old left → AreWires old right → i < length left → i < length right
    → Grows 7 new after → AreWires new digits → length digits ≡ i → all ≡ digits ++ s ∷ []
    → holds new opposite a ≡ not (holds new (get_or right i e) a)
    → word_value new digits a + 2 ^ i * (digit (holds new carry a) + number_of_bits (drop i (word_bits old left a)) + number_of_bits (drop i (map not (word_bits old right a)))) ≡ total
    → digit (holds after s a) + 2 * digit (holds after t a) ≡ digit (holds new (get_or left i d) a) + digit (holds new opposite a) + digit (holds new carry a)
    → word_value after all a + 2 ^ (i + 1) * (digit (holds after t a) + number_of_bits (drop (i + 1) (word_bits old left a)) + number_of_bits (drop (i + 1) (map not (word_bits old right a)))) ≡ total
difference_turn most i old new after left right digits all d e opposite carry s t total a g al ar ll lr h are len pushed opp v sum =
    let others = map not (word_bits old right a) in
    let second = ap digit (opp ∙ opposite_at most i old new right e a g ar lr ∙ sym (first_bit others i)) in
    ap (λ n. word_value after all a + 2 ^ (i + 1) * (digit (holds after t a) + number_of_bits (drop (i + 1) (word_bits old left a)) + n)) (sym (other_bits others i))
    ∙ sum_word_turn 7 i new after digits all (get_or left i d) carry s t (word_bits old left a) total (number_of_bits (drop i others)) a h are len pushed (bit_at most i old new left d a g al ll) v (omega (arith, sum, second))

-- where all digits are there, the last carry is one more
pub difference_end : (old new : Circuit) (left right digits all : List Wire) (carry : Wire) (i : ℕ) (a : Assignment)
    → length left ≡ i → length right ≡ i → length digits ≡ i → all ≡ digits ++ carry ∷ []
    → word_value new digits a + 2 ^ i * (digit (holds new carry a) + number_of_bits (drop i (word_bits old left a)) + number_of_bits (drop i (map not (word_bits old right a)))) ≡ word_value old left a + (number_of_bits (map not (word_bits old right a)) + 1)
    → word_value new all a + word_value old right a ≡ word_value old left a + 2 ^ length left
difference_end old new left right digits all carry i a ll lr ld pushed v =
    let others = map not (word_bits old right a) in
    let right_bits = length-map right (λ w. holds old w a) in
    let none_left = ap number_of_bits (drop_all i (word_bits old left a) (omega (arith, length-map left (λ w. holds old w a)))) in
    let none_right = ap number_of_bits (drop_all i others (omega (arith, length-map (word_bits old right a) not, right_bits))) in
    let whole = opposites (word_bits old right a) in
    let power = ap (λ n. 2 ^ n) (right_bits ∙ lr) in
    let last = ap number_of_bits (ap (λ ws. word_bits new ws a) pushed ∙ map-append (λ w. holds new w a) digits (carry ∷ [])) ∙ number-push (word_bits new digits a) (holds new carry a) in
    let same = ap (λ n. 2 ^ n) (length-map digits (λ w. holds new w a) ∙ ld) in
    let end = ap (λ n. 2 ^ n) ll in
    joined (word_value new digits a) (2 ^ i) (digit (holds new carry a)) _ _ _ _ _ _ _ _ none_left none_right v whole power (last ∙ ap (λ p. word_value new digits a + p * digit (holds new carry a)) same) end
  where
    joined : (written p c ml mr total_left n r wr all pl : ℕ) → ml ≡ 0 → mr ≡ 0 → written + p * (c + ml + mr) ≡ total_left + (n + 1) → n + r + 1 ≡ wr → wr ≡ p → all ≡ written + p * c → pl ≡ p → all + r ≡ total_left + pl
    joined written p c ml mr total_left n r wr all pl zl zr v whole power last end =
        let q : p * (c + ml + mr) ≡ p * c = ap (λ k. p * k) (omega (arith, zl, zr)) in
        omega arith
