use Rattle.bddl_lexer.proofs.OneReading.{one_spelling}
use Rattle.bddl_lexer.proofs.lexer.tokens_are_one.Goals as goal

pub returns : goal.returns
returns c = one_spelling
