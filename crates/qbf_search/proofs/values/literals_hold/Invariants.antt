use Rattle.std.proofs.Common.{◌≡◌, drop}
use Rattle.std.specs.List.{list_all}
use Rattle.bddl_model.specs.Truth.{literal_true}
use Rattle.qbf_search.specs.Values.{assignment}
use Rattle.qbf_search.proofs.values.literals_hold.Given as goal

abbrev pub invariant-loop-literal : goal.invariant-loop-literal
invariant-loop-literal l = list_all (literal_true (assignment l.values)) (drop l.literal-index l.literals) ≡ list_all (literal_true (assignment l.values)) l.literals
