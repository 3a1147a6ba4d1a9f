use Rattle.bddl_laws.proofs.PlayEnds.{valid_ends, valid_reaches}
use Rattle.bddl_laws.proofs.plays.plays_reach_the_goal.Goals as goal

pub returns-clause-ends : goal.returns-clause-ends
returns-clause-ends c = valid_ends

pub returns-clause-reaches : goal.returns-clause-reaches
returns-clause-reaches c = valid_reaches
