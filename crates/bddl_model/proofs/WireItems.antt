-- A wire of a word is a wire, and stays one with what it holds while the circuit grows.
use Rattle.std.proofs.Common.{◌≡◌, ℕ, zero, suc, ◌<◌, ◌+◌, List, [], ◌∷◌, ◌++◌, length, get_or, drop, sym, ap, ◌∙◌, arith}
use Rattle.std.proofs.lemmas.List.{drop_more}
use Rattle.bddl_model.specs.declared.circuit.Wire.{Wire}
use Rattle.bddl_model.specs.Truth.{Assignment}
use Rattle.bddl_model.specs.Circuit.{Circuit, IsWire, holds}
use Rattle.bddl_model.specs.Growth.{Grows}
use Rattle.bddl_model.specs.Words.{AreWires, word_bits}

pub item_wire : (c : Circuit) (ws : List Wire) (i : ℕ) (d : Wire) → AreWires c ws → i < length ws → IsWire c (get_or ws i d)
item_wire c [] i d are lt = absurd (omega arith)
item_wire c (w ∷ ws) zero d are lt = are.0
item_wire c (w ∷ ws) (suc i) d are lt = item_wire c ws i d are.1 (omega arith)

pub item_stays : (most : ℕ) (old new : Circuit) (ws : List Wire) (i : ℕ) (d : Wire) → Grows most old new → AreWires old ws → i < length ws → IsWire new (get_or ws i d)
item_stays most old new ws i d g are lt = g.wires (get_or ws i d) (item_wire old ws i d are lt)

-- the bits of what is left of a word, the first of them read in a circuit that has grown
pub next_bits : (most : ℕ) (old new : Circuit) (ws : List Wire) (i : ℕ) (d : Wire) (a : Assignment) → Grows most old new → AreWires old ws → i < length ws
    → word_bits old (drop i ws) a ≡ holds new (get_or ws i d) a ∷ word_bits old (drop (i + 1) ws) a
next_bits most old new ws i d a g are lt =
    ap (λ left. word_bits old left a) (drop_more ws i d lt)
    ∙ ap (λ b. b ∷ word_bits old (drop (i + 1) ws) a) (sym (g.kept (get_or ws i d) a (item_wire old ws i d are lt)))

pub word_push : (c : Circuit) (ws : List Wire) (w : Wire) → AreWires c ws → IsWire c w → AreWires c (ws ++ w ∷ [])
word_push c [] w are is = (is, tt)
word_push c (v ∷ ws) w are is = (are.0, word_push c ws w are.1 is)
