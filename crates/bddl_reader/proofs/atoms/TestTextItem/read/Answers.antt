use Rattle.bddl_model.specs.Meanings.{test_start}
use Rattle.bddl_reader.specs.GrammarReaders.{test_at}
use Rattle.bddl_reader.proofs.Lines.{exact_test}
use Rattle.bddl_reader.proofs.Loops.{leaves_fewer}
use Rattle.bddl_reader.proofs.atoms.TestTextItem.read.Goals as goal

pub returns-clause-fewer : goal.returns-clause-fewer
returns-clause-fewer c = leaves_fewer test_start _ test_at exact_test c.args.bytes.now c.args.rest.now c.test.result c.test.ensures
