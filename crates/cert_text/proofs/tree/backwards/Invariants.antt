use Rattle.std.proofs.Common.{◌≡◌, ◌≤◌, length, drop, reverse}
use Rattle.cert_text.specs.Trees as spec
use Rattle.cert_text.proofs.tree.backwards.Given as goal

abbrev pub invariant-nodes : goal.invariant-nodes
invariant-nodes l = record {
  within : l.n ≤ length l.nodes;
  nodes : reverse l.filled.items ≡ (spec.trees_from l.n (drop l.n l.nodes)).nodes;
  roots : reverse l.roots.items ≡ (spec.trees_from l.n (drop l.n l.nodes)).roots;
}

abbrev pub decreases-nodes : goal.decreases-nodes
decreases-nodes l = l.n
