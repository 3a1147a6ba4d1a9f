use Rattle.std.proofs.Common.{◌≡◌, true, false, ◌∙◌, arith}
use Rattle.bddl_model.proofs.CircuitForms.{clauses_counted}
use Rattle.tseitin.proofs.ClausePlaces.{gate_found, output_found}
use Rattle.tseitin.proofs.numbered.clause_at.Goals as goal

pub overflow_cast-node : goal.overflow_cast-node
overflow_cast-node c = omega (arith, clauses_counted c.args.dag.now c.args.out)

pub overflow_add-node-2 : goal.overflow_add-node-2
overflow_add-node-2 c = omega (arith, clauses_counted c.args.dag.now c.args.out)

pub returns-in_default : goal.returns-in_default
returns-in_default c =
    let some = rw c.inputs-inputs.ensures at c.in_default.ensures.some in
    rw (c.literal_of.ensures, c.inputs-inputs.ensures)
    (output_found c.args.dag.now c.args.out c.args.number (omega arith) c.requires.number (λ gate. let e : false ≡ true = some.1 gate in cc))

pub returns : goal.returns
returns c =
    gate_found c.args.dag.now c.args.out c.args.number (omega arith) c.in-Some.left c.in-Some.right (rw c.inputs-inputs.ensures at c.in-Some.ensures.operands)
    ∙ rw (c.literal_of-left.ensures, c.literal_of-right.ensures, c.inputs-inputs.ensures) at c.gate_clause.ensures
