use Rattle.bddl_lexer.proofs.Answered.{only, never, exact}
use Rattle.bddl_lexer.proofs.lexer.lex.Goals as goal

pub returns-clause-only : goal.returns-clause-only
returns-clause-only c = only c.args.bytes.now c.tokens_of.result c.tokens_of.ensures.found

pub returns-clause-never : goal.returns-clause-never
returns-clause-never c = never c.args.bytes.now c.tokens_of.result c.tokens_of.ensures.fault

pub returns-clause-exact : goal.returns-clause-exact
returns-clause-exact c = exact c.args.bytes.now c.tokens_of.result c.tokens_of.ensures.found c.tokens_of.ensures.fault
