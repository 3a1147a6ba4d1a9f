use Rattle.std.proofs.Common.{◌≡◌, ◌*◌, ◌≤◌, length, false}
use Rattle.bddl_model.specs.Game.{actions}
use Rattle.bddl_model.specs.declared.game.Side.TheVariants.{White}
use Rattle.game_play.specs.Plies.{LeftAfter}
use Rattle.game_play.specs.Rounds.{SoFar}
use Rattle.game_play.proofs.playing.rounds.Given as goal

abbrev pub invariant-loop-made : goal.invariant-loop-made
invariant-loop-made g l = record {
  so_far : SoFar l.setup l.nodes l.id l.made l.board.marks ((goal.Opponent-dyn g (l.opponent.vtable, l.opponent.value)).said l.opponent.value) (g.K.Sink.written l.fn.sink) (g.K.Sink.written l.sink);
  left : LeftAfter ((goal.Opponent-dyn g (l.fn.opponent.vtable, l.fn.opponent.value)).left l.fn.opponent.value) ((goal.Opponent-dyn g (l.opponent.vtable, l.opponent.value)).left l.opponent.value) ((goal.Opponent-dyn g (l.opponent.vtable, l.opponent.value)).said l.opponent.value) false;
  began : (goal.Opponent-dyn g (l.opponent.vtable, l.opponent.value)).began l.opponent.value ≡ (goal.Opponent-dyn g (l.fn.opponent.vtable, l.fn.opponent.value)).began l.fn.opponent.value;
  steady : (goal.Opponent-dyn g (l.opponent.vtable, l.opponent.value)).steady l.opponent.value ≡ (goal.Opponent-dyn g (l.fn.opponent.vtable, l.fn.opponent.value)).steady l.fn.opponent.value;
  count : (goal.Opponent-dyn g (l.opponent.vtable, l.opponent.value)).count l.opponent.value ≡ (goal.Opponent-dyn g (l.fn.opponent.vtable, l.fn.opponent.value)).count l.fn.opponent.value;
  faults : g.K.Sink.faults l.fn.sink ≡ g.K.Sink.faults l.sink;
  size : (l.board.width ≡ l.setup.game.width) × (l.board.height ≡ l.setup.game.height);
  room : length (actions l.setup.game White) * l.setup.game.width * l.setup.game.height ≤ l.list.room;
}
