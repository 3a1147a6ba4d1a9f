use Rattle.std.proofs.Common.{◌≡◌, max, min, drop}
use Rattle.bddl_model.specs.Rectangle.{least_anchor, greatest_anchor, columns_of, rows_of}
use Rattle.grid_game.specs.Narrowed.{IsInside}
use Rattle.grid_game.proofs.rect.narrowed_by_effects.Given as goal

-- what is left narrows to the same
abbrev pub invariant-loop-atom : goal.invariant-loop-atom
invariant-loop-atom l = record {
  inside : IsInside l.width l.height l.left;
  x_low : max l.left.x_low (least_anchor (columns_of (drop l.atom-index l.effects))) ≡ max l.fn.rect.x_low (least_anchor (columns_of l.effects));
  x_high : min l.left.x_high (greatest_anchor l.width (columns_of (drop l.atom-index l.effects))) ≡ min l.fn.rect.x_high (greatest_anchor l.width (columns_of l.effects));
  y_low : max l.left.y_low (least_anchor (rows_of (drop l.atom-index l.effects))) ≡ max l.fn.rect.y_low (least_anchor (rows_of l.effects));
  y_high : min l.left.y_high (greatest_anchor l.height (rows_of (drop l.atom-index l.effects))) ≡ min l.fn.rect.y_high (greatest_anchor l.height (rows_of l.effects));
}
