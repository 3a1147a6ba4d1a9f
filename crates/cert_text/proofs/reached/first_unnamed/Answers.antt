use Rattle.cert_text.proofs.Naming.{first_found}
use Rattle.cert_text.proofs.reached.first_unnamed.Goals as goal

pub returns-in-Some : goal.returns-in-Some
returns-in-Some c = first_found c.args.nodes.now c.in_ok-marks.marks.items c.in-Some.n c.in_ok-marks.ensures.len c.in_ok-marks.ensures.marked (rw c.deref.ensures.value at c.in-Some.ensures)
