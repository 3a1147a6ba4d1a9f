use Rattle.std.specs.Prelude.{codes}
use Rattle.bddl_model.specs.declared.tokens.TokenKind.TheVariants.{Colon}
use Rattle.bddl_model.specs.Meanings.{is}
use Rattle.bddl_reader.specs.GrammarReaders.{action_at}
use Rattle.bddl_reader.proofs.Lines.{exact_action}
use Rattle.bddl_reader.proofs.Loops.{leaves_fewer}
use Rattle.bddl_reader.proofs.domain.ActionTextItem.read.Goals as goal

pub returns-clause-fewer : goal.returns-clause-fewer
returns-clause-fewer c = leaves_fewer (is Colon (codes ":action")) _ action_at exact_action c.args.bytes.now c.args.rest.now c.action.result c.action.ensures
