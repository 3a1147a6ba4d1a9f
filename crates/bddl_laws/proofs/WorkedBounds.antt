-- The sizes and bounds of some games, as the definitions compute them.
use Rattle.std.proofs.Common.{◌≡◌, refl}
use Rattle.bddl_model.specs.Bits.{bits}
use Rattle.bddl_model.specs.Size.{units, inputs_of, units_of, gate_limit}
use Rattle.bddl_model.specs.Bounds.{steps_bound, game_bound, certify_bound}
use Rattle.bddl_laws.specs.WorkedGames.{two_by_two, five_in_a_row, six_stones, twelve_stones, white_first, greatest_setup}

pub two_by_two_inputs : inputs_of two_by_two ≡ 16
unfolding bits
two_by_two_inputs = refl

pub two_by_two_units : units_of two_by_two ≡ 40
unfolding units
two_by_two_units = refl

pub two_by_two_gates : gate_limit two_by_two ≡ 7680
unfolding bits units gate_limit
two_by_two_gates = refl

pub two_by_two_bound : game_bound two_by_two ≡ 1008861184
unfolding bits units gate_limit steps_bound game_bound
two_by_two_bound = refl

pub two_by_two_certificates : certify_bound two_by_two ≡ 23300014122
unfolding bits units gate_limit steps_bound game_bound certify_bound
two_by_two_certificates = refl

pub five_in_a_row_inputs : inputs_of (five_in_a_row twelve_stones 5) ≡ 94
unfolding bits
five_in_a_row_inputs = refl

pub five_in_a_row_units : units_of (five_in_a_row twelve_stones 5) ≡ 119
unfolding units
five_in_a_row_units = refl

pub five_in_a_row_gates : gate_limit (five_in_a_row twelve_stones 5) ≡ 39984
unfolding bits units gate_limit
five_in_a_row_gates = refl

pub example_units : units_of (five_in_a_row six_stones 3) ≡ 94
unfolding units
example_units = refl

pub example_gates : gate_limit (five_in_a_row six_stones 3) ≡ 31584
unfolding bits units gate_limit
example_gates = refl

pub white_first_units : units_of white_first ≡ 27
unfolding units
white_first_units = refl

pub white_first_bound : game_bound white_first ≡ 2327040
unfolding bits units gate_limit steps_bound game_bound
white_first_bound = refl

pub greatest_units : units_of greatest_setup ≡ 18193
unfolding units
greatest_units = refl

pub greatest_gates : gate_limit greatest_setup ≡ 7859376
unfolding bits units gate_limit
greatest_gates = refl

pub greatest_inputs : inputs_of greatest_setup ≡ 775
unfolding bits
greatest_inputs = refl
