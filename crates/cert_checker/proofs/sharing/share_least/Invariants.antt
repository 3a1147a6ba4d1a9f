use Rattle.std.proofs.Common.{◌-◌, length}
use Rattle.cert_checker.specs.Sharing.{AreShared}
use Rattle.cert_checker.proofs.sharing.share_least.Given as goal

abbrev pub invariant-nodes : goal.invariant-nodes
invariant-nodes l = AreShared l.setup l.nodes l.order.keys l.shared

abbrev pub decreases-nodes : goal.decreases-nodes
decreases-nodes l = length l.nodes - length l.shared
