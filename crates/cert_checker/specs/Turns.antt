-- Faults of a turn, one after the other.
use Rattle.std.specs.Prelude.{Option, Some, None}
use Rattle.bddl_model.specs.declared.certificate.TurnFault.{TurnFault}

abbrev pub or_more : Option TurnFault → Option TurnFault → Option TurnFault
or_more (Some f) more = Some f
or_more None more = more
