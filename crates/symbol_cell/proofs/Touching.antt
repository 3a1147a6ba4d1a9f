-- An atom touches the place where it leads there in its column and in its row.
use Rattle.std.proofs.Common.{◌≡◌, ℕ, ◌+◌, ◌&&◌, List, take, drop, ap, ap₂, ◌∙◌}
use Rattle.std.specs.Prelude.{◌==◌}
use Rattle.bddl_model.specs.declared.circuit.Wire.{Wire}
use Rattle.bddl_model.specs.declared.game.Atom.{Atom}
use Rattle.bddl_model.specs.Truth.{Assignment}
use Rattle.bddl_model.specs.Circuit.{Circuit, IsWire, holds}
use Rattle.bddl_model.specs.Fitting.{led}
use Rattle.bddl_model.specs.Growth.{Grows}
use Rattle.bddl_model.specs.OneCell.{touches, spelled_cell}
use Rattle.bddl_model.specs.Words.{AreWires, word_bits, number_of_bits, word_value}
use Rattle.bddl_model.proofs.WireWords.{value_kept, word_behind, front_bits, behind_bits}

-- the circuit was c before both tests, d between them, and is e behind them
pub touch_value : (c d e : Circuit) (m n k : ℕ) (atom : Atom) (anchor place anchor_x anchor_y place_x place_y : List Wire) (x y : Wire) (a : Assignment)
    → Grows m c d → Grows n d e → AreWires c anchor → AreWires c place
    → anchor_x ≡ take k anchor → anchor_y ≡ drop k anchor → place_x ≡ take k place → place_y ≡ drop k place → IsWire d x
    → holds d x a ≡ (led atom.x (word_value c anchor_x a + 1) == word_value c place_x a + 1)
    → holds e y a ≡ (led atom.y (word_value d anchor_y a + 1) == word_value d place_y a + 1)
    → (holds e x a && holds e y a) ≡ touches atom (spelled_cell k (word_bits c anchor a)) (spelled_cell k (word_bits c place a))
touch_value c d e m n k atom anchor place anchor_x anchor_y place_x place_y x y a g h is_anchor is_place ax ay px py is vx vy =
    ap₂ (λ s t. s && t)
    (h.kept x a is ∙ vx ∙ ap₂ (λ s t. led atom.x (s + 1) == t + 1) (front anchor anchor_x ax) (front place place_x px))
    (vy ∙ ap₂ (λ s t. led atom.y (s + 1) == t + 1) (behind anchor anchor_y is_anchor ay) (behind place place_y is_place py))
  where
    front : (ws part : List Wire) → part ≡ take k ws → word_value c part a ≡ number_of_bits (take k (word_bits c ws a))
    front ws part same = ap (λ l. word_value c l a) same ∙ ap number_of_bits (front_bits c k ws a)

    behind : (ws part : List Wire) → AreWires c ws → part ≡ drop k ws → word_value d part a ≡ number_of_bits (drop k (word_bits c ws a))
    behind ws part are same = ap (λ l. word_value d l a) same ∙ value_kept m c d (drop k ws) a g (word_behind c k ws are) ∙ ap number_of_bits (behind_bits c k ws a)
