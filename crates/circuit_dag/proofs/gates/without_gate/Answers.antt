use Rattle.std.proofs.Common.{refl, sym, ◌∙◌}
use Rattle.std.specs.Cmp.{booleans_Decides}
use Rattle.std.proofs.lemmas.Bool.{false≢true}
use Rattle.circuit_dag.proofs.WithoutGate.{truth_held, left_false, left_true, right_false, right_true, opposite_wires}
use Rattle.circuit_dag.proofs.gates.without_gate.Goals as goal

pub returns-then-left-clause-value : goal.returns-then-left-clause-value
returns-then-left-clause-value c d a = left_false d c.args.left c.args.right a c.if-left-eq0.true c.if-left.true

pub returns-else-left-clause-value : goal.returns-else-left-clause-value
returns-else-left-clause-value c d a = left_true d c.args.left c.args.right a c.if-left-eq0.true c.if-left.false

pub returns-then-right-clause-value : goal.returns-then-right-clause-value
returns-then-right-clause-value c d a = right_false d c.args.left c.args.right a c.if-right-eq0.true c.if-right.true

pub returns-else-right-clause-value : goal.returns-else-right-clause-value
returns-else-right-clause-value c d a = right_true d c.args.left c.args.right a c.if-right-eq0.true c.if-right.false

pub returns-clause-value : goal.returns-clause-value
returns-clause-value c d a =
    truth_held d _ a refl
    ∙ opposite_wires d c.args.left c.args.right a c.if-left-right.false (λ e. false≢true (sym c.if-left-right-2.false ∙ (booleans_Decides c.args.left.negated c.args.right.negated).1 e))
