use Rattle.std.proofs.Common.{◌≡◌, ◌+◌, suc, subst, ◌∙◌, arith}
use Rattle.std.specs.Prelude.{None}
use Rattle.cert_checker.specs.Places.{IsNamedBelow}
use Rattle.cert_checker.proofs.Fine.{no_fault}
use Rattle.cert_checker.proofs.Order.{later_at}
use Rattle.cert_checker.proofs.Steps.{if_none, next_node}
use Rattle.cert_checker.proofs.check.first_fault.Goals as goal

pub check_node-requires-clause-later : goal.check_node-requires-clause-later
check_node-requires-clause-later c =
    later_at _ _ c.loop-at.at c.args.nodes.now c.index-nodes-at.result c.requires.order c.loop-at-test.true c.index-nodes-at.is c.loop-at.invariant.len

pub loop-at-preserved : goal.loop-at-preserved
loop-at-preserved c =
    let none : c.check_node.result ≡ None = no_fault c.check_node.result c.in_default.not-Some in
    let more : suc c.loop-at.at ≡ c.loop-at.at + 1 = omega arith in
    record {
      rest = next_node c.args.setup.now c.loop-at.at c.loop-at.table c.check_node.new.table c.args.nodes.now c.index-nodes-at.result c.check_node.result c.loop-at-test.true c.index-nodes-at.is c.check_node.ensures.fault none (if_none c.check_node.result _ none c.check_node.ensures.entries) ∙ c.loop-at.invariant.rest;
      len = c.check_node.ensures.len ∙ c.loop-at.invariant.len;
      table = if_none c.check_node.result _ none c.check_node.ensures.table;
      named = subst (λ n. IsNamedBelow n c.check_node.new.table) more (if_none c.check_node.result _ none c.check_node.ensures.named);
      bench = c.check_node.ensures.bench;
    }
