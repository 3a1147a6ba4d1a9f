use Rattle.cert_text.proofs.OneAnswer.{only_cert, exact_fault}
use Rattle.cert_text.proofs.read.read_cert.Goals as goal

pub returns-clause-only : goal.returns-clause-only
returns-clause-only c = only_cert c.args.bytes.now c.read_text.result c.read_text.ensures.cert c.read_text.ensures.fault

pub returns-clause-exact : goal.returns-clause-exact
returns-clause-exact c = exact_fault c.args.bytes.now c.read_text.result c.read_text.ensures.cert c.read_text.ensures.fault
