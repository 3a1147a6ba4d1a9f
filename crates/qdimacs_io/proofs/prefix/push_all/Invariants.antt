use Rattle.std.proofs.Common.{◌≡◌, ◌++◌, drop}
use Rattle.bddl_model.specs.Forms.{greatest_variables, prefix_variables, AllInRange}
use Rattle.qdimacs_io.proofs.prefix.push_all.Given as goal

abbrev pub invariant-loop-bound : goal.invariant-loop-bound
invariant-loop-bound l = record {
  all : l.prefix ++ drop l.bound-index l.bounds ≡ l.fn.prefix ++ l.bounds;
  in_range : AllInRange greatest_variables (prefix_variables (drop l.bound-index l.bounds));
}
