use Rattle.std.proofs.Common.{arith}
use Rattle.bddl_model.proofs.CircuitForms.{clauses_counted}
use Rattle.tseitin.proofs.numbered.clause_count.Goals as goal

pub returns-clause-clauses : goal.returns-clause-clauses
returns-clause-clauses c = λ out. omega (arith, clauses_counted c.args.dag.now out)
