use Rattle.cert_text.specs.Reached.{AllMarked}
use Rattle.cert_text.proofs.reached.first_unmarked.Given as goal

abbrev pub invariant-loop-n : goal.invariant-loop-n
invariant-loop-n l = AllMarked l.marks l.n
