use Rattle.std.proofs.Common.{subst}
use Rattle.qbf_store.specs.Constraints.{AreFine}
use Rattle.qbf_store.proofs.store.Store.keeps_fine.Goals as goal

pub returns : goal.returns
returns c = subst AreFine c.self.view_is c.self.invariant.fine
