use Rattle.qdimacs_io.proofs.Whole.{form_told, fault_told, only_form, exact_fault}
use Rattle.qdimacs_io.proofs.read.read_qdimacs.Goals as goal

pub returns-clause-form : goal.returns-clause-form
returns-clause-form c = form_told c.args.bytes.now c.read_text.result c.read_text.ensures

pub returns-clause-only : goal.returns-clause-only
returns-clause-only c = only_form c.args.bytes.now c.read_text.result c.read_text.ensures

pub returns-clause-fault : goal.returns-clause-fault
returns-clause-fault c = fault_told c.args.bytes.now c.read_text.result c.read_text.ensures

pub returns-clause-exact : goal.returns-clause-exact
returns-clause-exact c = exact_fault c.args.bytes.now c.read_text.result c.read_text.ensures
