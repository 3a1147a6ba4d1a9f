-- One turn of a loop over a word keeps what is still to be said of it.
use Rattle.std.proofs.Common.{◌≡◌, ℕ, ◌<◌, ◌+◌, ◌*◌, ◌/◌, ◌%◌, ◌^◌, Bool, true, false, not, ◌&&◌, ◌||◌, List, [], ◌∷◌, ◌++◌, length, get_or, drop, ◌==◌, nat_le, if◌then◌else◌, refl, sym, ap, ap₂, ◌∙◌, add-one, pow-suc}
use Rattle.std.specs.List.{list_all, list_any}
use Rattle.std.specs.Bool.{beq}
use Rattle.std.proofs.lemmas.List.{map-append, length-map, drop_more}
use Rattle.bddl_model.specs.declared.circuit.Wire.{Wire}
use Rattle.bddl_model.specs.Truth.{Assignment}
use Rattle.bddl_model.specs.Circuit.{Circuit, holds}
use Rattle.bddl_model.specs.Growth.{Grows}
use Rattle.bddl_model.specs.Words.{AreWires, word_bits, number_of_bits, word_value}
use Rattle.bddl_model.proofs.WireWords.{word_kept}
use Rattle.bit_arith.specs.Digits.{digit}
use Rattle.bddl_model.proofs.WireItems.{item_wire, next_bits}
use Rattle.bit_arith.proofs.Comparing.{equal_odd, equal_digits, reached_by_bit, less_by_bit}
use Rattle.bit_arith.proofs.Adding.{number-push, number-drop, digit_odd, sum_turn}

and_associates : (x y z : Bool) → ((x && y) && z) ≡ (x && (y && z))
and_associates true y z = refl
and_associates false y z = refl

all_next : (x y z r t : Bool) → z ≡ (x && y) → (x && (y && r)) ≡ t → (z && r) ≡ t
all_next true true z r t e h = rw e h
all_next true false z r t e h = rw e h
all_next false y z r t e h = rw e h

any_next : (x y z r t : Bool) → z ≡ (x && not y) → (not x || (y || r)) ≡ t → (not z || r) ≡ t
any_next true true z r t e h = rw e h
any_next true false z r t e h = rw e h
any_next false y z r t e h = rw e h

-- The circuit was `old` before the loop, it is `new` before the turn, and `after` it. The wire x says so of the first wires, and then z.
module _ (most i : ℕ) (old new after : Circuit) (ws : List Wire) (d x z : Wire) (a : Assignment) (g : Grows most old new) (are : AreWires old ws) (lt : i < length ws) where
  abbrev item : Bool
  item = holds new (get_or ws i d) a

  abbrev later : ℕ
  later = word_value old (drop (i + 1) ws) a

  item_kept : item ≡ holds old (get_or ws i d) a
  item_kept = g.kept (get_or ws i d) a (item_wire old ws i d are lt)

  value_left : word_value old (drop i ws) a ≡ digit item + 2 * later
  value_left = ap number_of_bits (next_bits most old new ws i d a g are lt)

  abbrev fact : Wire → Bool
  fact w = holds old w a

  pub all_turn : (t : Bool) → (holds new x a && list_all fact (drop i ws)) ≡ t → holds after z a ≡ (holds new x a && item) → (holds after z a && list_all fact (drop (i + 1) ws)) ≡ t
  all_turn t e v =
      all_next (holds new x a) item (holds after z a) (list_all fact (drop (i + 1) ws)) t v
      (ap (λ b. holds new x a && (b && list_all fact (drop (i + 1) ws))) item_kept ∙ sym (ap (λ left. holds new x a && list_all fact left) (drop_more ws i d lt)) ∙ e)

  pub any_turn : (t : Bool) → (not (holds new x a) || list_any fact (drop i ws)) ≡ t → holds after z a ≡ (holds new x a && not item) → (not (holds after z a) || list_any fact (drop (i + 1) ws)) ≡ t
  any_turn t e v =
      any_next (holds new x a) item (holds after z a) (list_any fact (drop (i + 1) ws)) t v
      (ap (λ b. not (holds new x a) || (b || list_any fact (drop (i + 1) ws))) item_kept ∙ sym (ap (λ left. not (holds new x a) || list_any fact left) (drop_more ws i d lt)) ∙ e)

  pub constant_turn : (t : Bool) (rest : ℕ) → (holds new x a && (word_value old (drop i ws) a == rest)) ≡ t → holds after z a ≡ (holds new x a && beq (rest % 2 == 1) item) → (holds after z a && (later == rest / 2)) ≡ t
  constant_turn t rest e v =
      ap (λ b. b && (later == rest / 2)) v
      ∙ and_associates (holds new x a) (beq (rest % 2 == 1) item) (later == rest / 2)
      ∙ ap (λ b. holds new x a && b) (sym (equal_odd item later rest))
      ∙ sym (ap (λ n. holds new x a && (n == rest)) value_left)
      ∙ e

  pub reached_turn : (t : Bool) (rest : ℕ) → nat_le (rest + digit (not (holds new x a))) (word_value old (drop i ws) a) ≡ t
      → holds after z a ≡ (if rest % 2 == 1 then holds new x a && item else holds new x a || item)
      → nat_le (rest / 2 + digit (not (holds after z a))) later ≡ t
  reached_turn t rest e v =
      ap (λ b. nat_le (rest / 2 + digit (not b)) later) v
      ∙ sym (reached_by_bit item (holds new x a) later rest)
      ∙ sym (ap (λ n. nat_le (rest + digit (not (holds new x a))) n) value_left)
      ∙ e

  pub equal_turn : (us : List Wire) (t : Bool) → AreWires old us → i < length us
      → (holds new x a && (word_value old (drop i ws) a == word_value old (drop i us) a)) ≡ t
      → holds after z a ≡ (holds new x a && beq item (holds new (get_or us i d) a))
      → (holds after z a && (later == word_value old (drop (i + 1) us) a)) ≡ t
  equal_turn us t are' lt' e v =
      let later' = word_value old (drop (i + 1) us) a in
      let item' = holds new (get_or us i d) a in
      ap (λ b. b && (later == later')) v
      ∙ and_associates (holds new x a) (beq item item') (later == later')
      ∙ ap (λ b. holds new x a && b) (sym (equal_digits item item' later later'))
      ∙ sym (ap₂ (λ m n. holds new x a && (m == n)) value_left (ap number_of_bits (next_bits most old new us i d a g are' lt')))
      ∙ e

  pub less_turn : (us : List Wire) (t : Bool) → AreWires old us → i < length us
      → nat_le (word_value old (drop i ws) a + digit (not (holds new x a))) (word_value old (drop i us) a) ≡ t
      → holds after z a ≡ (not item && holds new (get_or us i d) a || (not item || holds new (get_or us i d) a) && holds new x a)
      → nat_le (later + digit (not (holds after z a))) (word_value old (drop (i + 1) us) a) ≡ t
  less_turn us t are' lt' e v =
      let later' = word_value old (drop (i + 1) us) a in
      let item' = holds new (get_or us i d) a in
      ap (λ b. nat_le (later + digit (not b)) later') v
      ∙ sym (less_by_bit item item' (holds new x a) later later')
      ∙ sym (ap₂ (λ m n. nat_le (m + digit (not (holds new x a))) n) value_left (ap number_of_bits (next_bits most old new us i d a g are' lt')))
      ∙ e

-- one more digit of a sum
pub sum_word_turn : (most i : ℕ) (new after : Circuit) (digits all : List Wire) (bit carry s t : Wire) (bs : List Bool) (total rest : ℕ) (a : Assignment) → Grows most new after → AreWires new digits → length digits ≡ i → all ≡ digits ++ s ∷ []
    → holds new bit a ≡ get_or bs i false
    → word_value new digits a + 2 ^ i * (digit (holds new carry a) + number_of_bits (drop i bs) + rest) ≡ total
    → digit (holds after s a) + 2 * digit (holds after t a) ≡ digit (holds new bit a) + digit (holds new carry a) + digit (rest % 2 == 1)
    → word_value after all a + 2 ^ (i + 1) * (digit (holds after t a) + number_of_bits (drop (i + 1) bs) + rest / 2) ≡ total
sum_word_turn most i new after digits all bit carry s t bs total rest a g are l e b v d =
    ap₂ (λ x p. x + p * (digit (holds after t a) + number_of_bits (drop (i + 1) bs) + rest / 2)) written power
    ∙ sum_turn (2 ^ i) (word_value new digits a) total (digit (holds new carry a)) (number_of_bits (drop i bs)) rest (digit (holds after s a)) (digit (holds after t a)) (digit (get_or bs i false)) (number_of_bits (drop (i + 1) bs)) v (number-drop bs i)
    (d ∙ ap₂ (λ x y. digit x + digit (holds new carry a) + y) b (digit_odd rest))
  where
    power : 2 ^ (i + 1) ≡ 2 ^ i * 2
    power = rw add-one (pow-suc 2 i)

    written : word_value after all a ≡ word_value new digits a + 2 ^ i * digit (holds after s a)
    written =
        ap number_of_bits (ap (λ ws. word_bits after ws a) e ∙ map-append (λ w. holds after w a) digits (s ∷ []) ∙ ap (λ xs. xs ++ holds after s a ∷ []) (word_kept most new after digits a g are))
        ∙ number-push (word_bits new digits a) (holds after s a)
        ∙ ap (λ n. word_value new digits a + 2 ^ n * digit (holds after s a)) (length-map digits (λ w. holds new w a) ∙ l)
