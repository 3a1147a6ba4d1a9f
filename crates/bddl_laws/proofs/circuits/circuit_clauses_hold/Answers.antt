use Rattle.bddl_model.proofs.Tseitin.{compiled_value}
use Rattle.bddl_laws.proofs.GateValues.{clauses_are_satisfied, gate_values_are_unique, literals_are_wires}
use Rattle.bddl_laws.proofs.circuits.circuit_clauses_hold.Goals as goal

pub returns : goal.returns
returns c = record { satisfied = clauses_are_satisfied; unique = gate_values_are_unique; held = literals_are_wires; valued = compiled_value }
