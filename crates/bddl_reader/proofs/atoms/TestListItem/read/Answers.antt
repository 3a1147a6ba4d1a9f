use Rattle.std.specs.Prelude.{codes}
use Rattle.bddl_model.specs.declared.tokens.TokenKind.TheVariants.{Left}
use Rattle.bddl_model.specs.Meanings.{is}
use Rattle.bddl_reader.specs.GrammarReaders.{tests_at}
use Rattle.bddl_reader.proofs.Lines.{exact_tests}
use Rattle.bddl_reader.proofs.Loops.{leaves_fewer}
use Rattle.bddl_reader.proofs.atoms.TestListItem.read.Goals as goal

pub returns-clause-fewer : goal.returns-clause-fewer
returns-clause-fewer c = leaves_fewer (is Left (codes "(")) _ tests_at exact_tests c.args.bytes.now c.args.rest.now c.enclosed.result c.enclosed.ensures
