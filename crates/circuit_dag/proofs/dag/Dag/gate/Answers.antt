use Rattle.std.proofs.Common.{◌-◌, suc, sym, arith}
use Rattle.circuit_dag.proofs.Standing.{parted}
use Rattle.circuit_dag.proofs.dag.Dag.gate.Goals as goal

pub returns-clause-earlier : goal.returns-clause-earlier
returns-clause-earlier c =
    let p = parted c.self.inside.gates.keys (c.args.node.0 - c.self.inside.inputs - 1) (suc c.self.inside.inputs) c.in_ok-gate.gate.now c.self.invariant.order (sym c.in_ok-gate.ensures.key) in
    (p.operands, omega (arith, p.earlier, c.if-node-self.false))
