use Rattle.std.proofs.Common.{◌≡◌, true, drop}
use Rattle.std.specs.List.{list_all}
use Rattle.bddl_model.specs.Game.{test_atoms}
use Rattle.bddl_model.specs.Fitting.{on_board, test_holds}
use Rattle.grid_game.proofs.atoms.all_hold.Given as goal

-- what is left decides
abbrev pub invariant-loop-test : goal.invariant-loop-test
invariant-loop-test l = record {
  cells : list_all (on_board l.board.width l.board.height l.x l.y) (test_atoms (drop l.test-index l.tests)) ≡ true;
  hold : list_all (test_holds l.board.width l.board.marks l.x l.y) (drop l.test-index l.tests) ≡ list_all (test_holds l.board.width l.board.marks l.x l.y) l.tests;
}
