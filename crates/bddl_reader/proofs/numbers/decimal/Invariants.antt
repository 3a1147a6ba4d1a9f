use Rattle.std.proofs.Common.{◌≡◌, ◌<◌, ◌^◌, drop}
use Rattle.bddl_model.specs.Bytes.{digits_from}
use Rattle.bddl_reader.proofs.numbers.decimal.Given as goal

abbrev pub invariant-loop-digit : goal.invariant-loop-digit
invariant-loop-digit l = record {
  rest : digits_from l.value (drop l.digit-index l.text) ≡ digits_from 0 l.text;
  small : l.value < 10 ^ l.digit-index;
}
