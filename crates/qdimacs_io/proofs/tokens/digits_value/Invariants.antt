use Rattle.std.proofs.Common.{◌≡◌, ◌<◌, ◌^◌, drop}
use Rattle.bddl_model.specs.Bytes.{digits_from}
use Rattle.qdimacs_io.proofs.tokens.digits_value.Given as goal

abbrev pub invariant-loop-i : goal.invariant-loop-i
invariant-loop-i l = (digits_from l.value (drop l.i l.digits) ≡ digits_from 0 l.digits) × (l.value < 10 ^ l.i)
