use Rattle.std.proofs.Common.{◌≡◌, ℕ, ◌+◌, ◌-◌, ◌<◌, true, ◌++◌, map}
use Rattle.std.specs.List.{range_with_len}
use Rattle.bddl_model.specs.declared.formula.Quant.TheVariants.{Exists}
use Rattle.bddl_model.specs.Forms.{has_number, prefix_variables}
use Rattle.bddl_model.specs.Qdimacs.{bound_of}
use Rattle.qdimacs_io.specs.States.{free_marks}
use Rattle.qdimacs_io.proofs.FreeVariables.{free_among}
use Rattle.qdimacs_io.proofs.prefix.free_variables.Given as goal

abbrev pub invariant-loop-number : goal.invariant-loop-number
invariant-loop-number l = record {
  found : l.free ++ map (bound_of Exists) (free_among l.occurs l.prefix (range_with_len l.number (l.variables + 1 - l.number))) ≡ map (bound_of Exists) (free_marks l.variables l.occurs l.prefix);
  below : (v : ℕ) → has_number (prefix_variables l.free) v ≡ true → v < l.number;
}
