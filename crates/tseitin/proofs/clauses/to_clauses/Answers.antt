use Rattle.std.proofs.Common.{[], ◌∷◌, ◌++◌, sym, ap, ◌∙◌, arith}
use Rattle.std.proofs.lemmas.List.{take_all}
use Rattle.bddl_model.specs.Circuit.{circuit_clauses}
use Rattle.tseitin.specs.GateClauses.{literals_of}
use Rattle.tseitin.proofs.ClausePlaces.{one_more, clause_fits}
use Rattle.tseitin.proofs.clauses.to_clauses.Goals as goal

pub add_clause-requires : goal.add_clause-requires
add_clause-requires c =
    rw c.loop-number.invariant.prefix
    (clause_fits c.args.prefix c.args.dag.now c.args.out c.loop-number.number (literals_of c.clause_at.result) c.requires.prefix c.keeps_its_order.ensures.order c.requires.out c.clause_at.ensures)

pub loop-number-preserved : goal.loop-number-preserved
loop-number-preserved c = record {
  prefix = ap (λ f. f.prefix) c.in_ok-add_clause.ensures ∙ c.loop-number.invariant.prefix;
  clauses =
      ap (λ f. f.clauses) c.in_ok-add_clause.ensures
      ∙ ap (λ l. l ++ literals_of c.clause_at.result ∷ []) c.loop-number.invariant.clauses
      ∙ sym (one_more (circuit_clauses c.args.dag.now c.args.out) c.loop-number.number (literals_of c.clause_at.result) c.clause_at.ensures);
}

pub returns-clause-unique : goal.returns-clause-unique
returns-clause-unique c = λ a b.
    let last = c.clause_count-number-end.ensures.clauses c.args.out in
    let all = c.loop-number.invariant.clauses ∙ take_all c.loop-number.number (circuit_clauses c.args.dag.now c.args.out) (omega (arith, last)) in
    rw all (c.circuit_clauses_hold.ensures.unique c.args.dag.now c.args.out a b c.keeps_its_order.ensures.order)
