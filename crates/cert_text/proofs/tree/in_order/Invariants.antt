use Rattle.std.proofs.Common.{◌≡◌, ◌++◌, length, reverse}
use Rattle.cert_text.proofs.tree.in_order.Given as goal

abbrev pub invariant-nodes : goal.invariant-nodes
invariant-nodes l = l.nodes ++ reverse l.backwards.items ≡ reverse l.fn.backwards.items

abbrev pub decreases-nodes : goal.decreases-nodes
decreases-nodes l = length l.backwards.items
