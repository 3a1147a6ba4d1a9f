use Rattle.std.proofs.Common.{◌≡◌, ◌+◌, map, take, drop}
use Rattle.bddl_model.specs.Fine.{first_block}
use Rattle.qbf_search.specs.Values.{assignment}
use Rattle.qbf_search.proofs.solving.first_values.Given as goal

abbrev pub invariant-loop-bound : goal.invariant-loop-bound
invariant-loop-bound l = record {
  block : first_block l.quant l.prefix ≡ l.bound-index + first_block l.quant (drop l.bound-index l.prefix);
  values : l.first.items ≡ map (λ b. assignment l.values b.var.0) (take l.bound-index l.prefix);
}
