use Rattle.std.proofs.Common.{◌≡◌, ◌<◌, ◌^◌, drop}
use Rattle.bddl_model.specs.Bytes.{digits_from}
use Rattle.game_play.proofs.players.typed.number_on.Given as goal

abbrev pub invariant-loop-digit : goal.invariant-loop-digit
invariant-loop-digit l = record {
  rest : digits_from l.number (drop l.digit-index l.line) ≡ digits_from 0 l.line;
  small : l.number < 10 ^ l.digit-index;
}
