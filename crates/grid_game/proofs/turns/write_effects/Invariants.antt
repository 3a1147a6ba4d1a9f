use Rattle.std.proofs.Common.{◌≡◌, true, drop}
use Rattle.bddl_model.specs.Fitting.{fits}
use Rattle.bddl_model.specs.Game.{Game}
use Rattle.bddl_model.specs.Moves.{written}
use Rattle.grid_game.proofs.turns.write_effects.Given as goal

-- what is left to write leads to the whole board
abbrev pub invariant-loop-atom : goal.invariant-loop-atom
invariant-loop-atom l = record {
  width : l.board.width ≡ l.initial.board.width;
  height : l.board.height ≡ l.initial.board.height;
  fits : fits l.board.width l.board.height (drop l.atom-index l.effects) l.x l.y ≡ true;
  marks : (g : Game) → g.width ≡ l.board.width → written g l.x l.y (drop l.atom-index l.effects) l.board.marks ≡ written g l.x l.y l.effects l.initial.board.marks;
}
