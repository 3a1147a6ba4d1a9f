use Rattle.std.proofs.Common.{◌≡◌, ◌-◌, ◌++◌, take, length}
use Rattle.bddl_model.specs.Codes.{number_bits}
use Rattle.move_code.proofs.number.write_number.Given as goal

abbrev pub invariant-bits : goal.invariant-bits
invariant-bits l = record {
  same : length l.into ≡ length l.fn.into;
  done : take l.i l.into ++ number_bits (length l.fn.into - l.i) l.rest ≡ number_bits (length l.fn.into) l.fn.number;
}
