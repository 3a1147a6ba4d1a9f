use Rattle.bddl_model.specs.Meanings.{a_mark}
use Rattle.bddl_reader.specs.GrammarReaders.{atom_at}
use Rattle.bddl_reader.proofs.Lines.{exact_atom}
use Rattle.bddl_reader.proofs.Loops.{leaves_fewer}
use Rattle.bddl_reader.proofs.atoms.AtomTextItem.read.Goals as goal

pub returns-clause-fewer : goal.returns-clause-fewer
returns-clause-fewer c = leaves_fewer a_mark _ atom_at exact_atom c.args.bytes.now c.args.rest.now c.atom.result c.atom.ensures
