use Rattle.bddl_laws.proofs.WorkedBounds as worked
use Rattle.bddl_laws.proofs.bounds.worked_bounds.Goals as goal

pub returns : goal.returns
returns c = record {
  two_by_two_inputs = worked.two_by_two_inputs;
  two_by_two_units = worked.two_by_two_units;
  two_by_two_gates = worked.two_by_two_gates;
  two_by_two_bound = worked.two_by_two_bound;
  two_by_two_certificates = worked.two_by_two_certificates;
  five_in_a_row_inputs = worked.five_in_a_row_inputs;
  five_in_a_row_units = worked.five_in_a_row_units;
  five_in_a_row_gates = worked.five_in_a_row_gates;
  example_units = worked.example_units;
  example_gates = worked.example_gates;
  white_first_units = worked.white_first_units;
  white_first_bound = worked.white_first_bound;
  greatest_units = worked.greatest_units;
  greatest_gates = worked.greatest_gates;
  greatest_inputs = worked.greatest_inputs;
}
