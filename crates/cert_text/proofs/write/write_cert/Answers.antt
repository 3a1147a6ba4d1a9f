use Rattle.io_edge.proofs.Steps.{adds_finish}
use Rattle.cert_text.proofs.write.write_cert.Goals as goal

pub returns-clause-text : goal.returns-clause-text
returns-clause-text g c = adds_finish _ _ _ _ _ _ (rw c.new-buffer.ensures at c.in_ok-add_cert.ensures.text) c.finish.ensures.text
