use Rattle.std.proofs.Common.{◌-◌, ap, subst, ◌∙◌, arith, rules}
use Rattle.bddl_model.specs.Layout.{Inputs, blocks}
use Rattle.bddl_model.specs.Prenex.{Cover}
use Rattle.lifted_encode.specs.Encoded.{setup_of}
use Rattle.strategy.proofs.Encoding.{prefix_encodes}
use Rattle.strategy.proofs.circuit.game_circuit.Goals as goal

pub returns-clause-form : goal.returns-clause-form
returns-clause-form c =
    let lifted = c.in_ok-lifted.lifted in
    let is_layout = c.in_ok-lifted.ensures.layout in
    prefix_encodes (setup_of c.args.game.now c.args.board.now.marks c.args.first c.args.depth) lifted.dag lifted.out
    c.keeps_its_order.ensures.order c.in_ok-lifted.ensures.out
    (c.in_ok-lifted.ensures.inputs ∙ ap (λ (l : Inputs). l.inputs) is_layout)
    (subst (λ l. Cover (blocks l) l.inputs) is_layout c.keeps_its_order-2.ensures.covered)
    c.in_ok-lifted.ensures.meaning c.keeps_its_gates_apart.ensures c.in_ok-lifted.ensures.small c.keeps_its_order.ensures.nodes
    c.deref.result.now (c.len.result - c.inputs.result) _
    (search rules)
    (omega (arith, c.len.ensures, c.inputs.ensures))
    (rw c.inputs-2.ensures at c.in_ok-prefix.ensures.order)
