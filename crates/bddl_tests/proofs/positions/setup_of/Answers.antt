use Rattle.offset_check.proofs.Named.{named}
use Rattle.bddl_tests.proofs.positions.setup_of.Goals as goal

pub check-requires-clause-black : goal.check-requires-clause-black
check-requires-clause-black c = (named c.in_ok-domain.domain c.in_ok-domain.ensures.spelled).0

pub check-requires-clause-white : goal.check-requires-clause-white
check-requires-clause-white c = (named c.in_ok-domain.domain c.in_ok-domain.ensures.spelled).1
