-- A circuit that grows keeps its words of wires and what they hold; and the parts of a word.
use Rattle.std.proofs.Common.{◌≡◌, ℕ, zero, suc, List, [], ◌∷◌, take, drop, refl, sym, ap, ap₂}
use Rattle.std.proofs.lemmas.List.{take-map, drop-map}
use Rattle.bddl_model.specs.declared.circuit.Wire.{Wire}
use Rattle.bddl_model.specs.Truth.{Assignment}
use Rattle.bddl_model.specs.Circuit.{Circuit, holds}
use Rattle.bddl_model.specs.Growth.{Grows}
use Rattle.bddl_model.specs.Words.{AreWires, word_bits, number_of_bits, word_value}

pub word_stays : (most : ℕ) (old new : Circuit) (ws : List Wire) → Grows most old new → AreWires old ws → AreWires new ws
word_stays most old new [] g are = tt
word_stays most old new (w ∷ ws) g are = (g.wires w are.0, word_stays most old new ws g are.1)

pub word_kept : (most : ℕ) (old new : Circuit) (ws : List Wire) (a : Assignment) → Grows most old new → AreWires old ws → word_bits new ws a ≡ word_bits old ws a
word_kept most old new [] a g are = refl
word_kept most old new (w ∷ ws) a g are = ap₂ (λ b bs. b ∷ bs) (g.kept w a are.0) (word_kept most old new ws a g are.1)

pub value_kept : (most : ℕ) (old new : Circuit) (ws : List Wire) (a : Assignment) → Grows most old new → AreWires old ws → word_value new ws a ≡ word_value old ws a
value_kept most old new ws a g are = ap number_of_bits (word_kept most old new ws a g are)

-- ---- parts of words

pub word_front : (c : Circuit) (n : ℕ) (ws : List Wire) → AreWires c ws → AreWires c (take n ws)
word_front c zero ws h = tt
word_front c (suc n) [] h = tt
word_front c (suc n) (w ∷ ws) h = (h.0, word_front c n ws h.1)

pub word_behind : (c : Circuit) (n : ℕ) (ws : List Wire) → AreWires c ws → AreWires c (drop n ws)
word_behind c zero ws h = h
word_behind c (suc n) [] h = tt
word_behind c (suc n) (w ∷ ws) h = word_behind c n ws h.1

pub front_bits : (c : Circuit) (n : ℕ) (ws : List Wire) (a : Assignment) → word_bits c (take n ws) a ≡ take n (word_bits c ws a)
front_bits c n ws a = sym (take-map (λ w. holds c w a) n ws)

pub behind_bits : (c : Circuit) (n : ℕ) (ws : List Wire) (a : Assignment) → word_bits c (drop n ws) a ≡ drop n (word_bits c ws a)
behind_bits c n ws a = sym (drop-map (λ w. holds c w a) n ws)
