use Rattle.bddl_lexer.proofs.Placing.{one_placing}
use Rattle.bddl_lexer.proofs.lexer.placing_is_one.Goals as goal

pub returns : goal.returns
returns c = one_placing
