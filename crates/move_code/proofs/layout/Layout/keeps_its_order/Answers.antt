use Rattle.move_code.proofs.Covered.{blocks_cover}
use Rattle.move_code.proofs.layout.Layout.keeps_its_order.Goals as goal

pub returns-clause-covered : goal.returns-clause-covered
returns-clause-covered c = rw (← c.self.view_is) (blocks_cover _ c.self.invariant)
