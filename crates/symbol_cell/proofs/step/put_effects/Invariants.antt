use Rattle.std.proofs.Common.{◌≡◌, ◌*◌, drop, length}
use Rattle.bddl_model.specs.Truth.{Assignment}
use Rattle.bddl_model.specs.Circuit.{holds}
use Rattle.bddl_model.specs.Growth.{Grows}
use Rattle.symbol_cell.specs.Pairs.{IsPair, mark_of}
use Rattle.symbol_cell.specs.Steps.{anchor_of, place_of, rewritten_if, unit}
use Rattle.symbol_cell.proofs.step.put_effects.Given as goal

-- what is left leads to the whole
abbrev pub invariant-effects : goal.invariant-effects
invariant-effects l = record {
  pair : IsPair l.dag l.pair;
  grows : Grows (unit (length l.cells.place.now) * l.effect-index) l.fn.dag l.dag;
  shown : (a : Assignment) → rewritten_if (holds l.fn.dag l.named a) (drop l.effect-index l.effects) (anchor_of l.fn.dag l.cells a) (place_of l.fn.dag l.cells a) (mark_of l.dag l.pair a)
      ≡ rewritten_if (holds l.fn.dag l.named a) l.effects (anchor_of l.fn.dag l.cells a) (place_of l.fn.dag l.cells a) (mark_of l.fn.dag l.fn.before a);
}
