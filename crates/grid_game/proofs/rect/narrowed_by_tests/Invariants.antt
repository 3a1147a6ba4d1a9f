use Rattle.std.proofs.Common.{◌≡◌, max, min, drop}
use Rattle.bddl_model.specs.Game.{test_atoms}
use Rattle.bddl_model.specs.Rectangle.{least_anchor, greatest_anchor, columns_of, rows_of}
use Rattle.grid_game.specs.Narrowed.{IsInside}
use Rattle.grid_game.proofs.rect.narrowed_by_tests.Given as goal

-- what is left narrows to the same
abbrev pub invariant-loop-test : goal.invariant-loop-test
invariant-loop-test l = record {
  inside : IsInside l.width l.height l.left;
  x_low : max l.left.x_low (least_anchor (columns_of (test_atoms (drop l.test-index l.tests)))) ≡ max l.fn.rect.x_low (least_anchor (columns_of (test_atoms l.tests)));
  x_high : min l.left.x_high (greatest_anchor l.width (columns_of (test_atoms (drop l.test-index l.tests)))) ≡ min l.fn.rect.x_high (greatest_anchor l.width (columns_of (test_atoms l.tests)));
  y_low : max l.left.y_low (least_anchor (rows_of (test_atoms (drop l.test-index l.tests)))) ≡ max l.fn.rect.y_low (least_anchor (rows_of (test_atoms l.tests)));
  y_high : min l.left.y_high (greatest_anchor l.height (rows_of (test_atoms (drop l.test-index l.tests)))) ≡ min l.fn.rect.y_high (greatest_anchor l.height (rows_of (test_atoms l.tests)));
}
