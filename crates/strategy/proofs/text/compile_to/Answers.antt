use Rattle.io_edge.proofs.Steps.{adds_finish}
use Rattle.strategy.proofs.Writing.{writes_form}
use Rattle.strategy.proofs.text.compile_to.Goals as goal

pub returns-clause-text : goal.returns-clause-text
returns-clause-text g c =
    writes_form _ _ c.in_ok-circuit.ensures.form _ _ _
    (adds_finish _ _ _ _ _ _ (rw c.new-buffer.ensures at c.in_ok-add_circuit.ensures.text) c.finish.ensures.text)
