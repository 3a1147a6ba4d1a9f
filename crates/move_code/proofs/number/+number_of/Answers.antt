use Rattle.std.proofs.Common.{◌-◌, ◌^◌, ◌<◌, ◌≤◌, Bool, List, length, take, drop, arith}
use Rattle.std.proofs.lemmas.List.{length-take}
use Rattle.bddl_model.specs.Words.{number_of_bits}
use Rattle.move_code.proofs.Numbers.{short_number}
use Rattle.move_code.proofs.number.+number_of.Goals as goal

later_short : (bits : List Bool) → length bits ≤ 32 → number_of_bits (take (length bits - 1) (drop 1 bits)) < 2 ^ 31
later_short bits h = short_number (take (length bits - 1) (drop 1 bits)) (omega (arith, length-take (length bits - 1) (drop 1 bits)))

pub overflow_mul-rest : goal.overflow_mul-rest
overflow_mul-rest t c = omega (arith, c.number_of-rest.ensures, later_short c.args.bits.now c.requires)

pub overflow_add-result : goal.overflow_add-result
overflow_add-result t c = omega (arith, c.number_of-rest.ensures, later_short c.args.bits.now c.requires)
