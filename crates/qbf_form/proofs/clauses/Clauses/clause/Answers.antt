use Rattle.std.proofs.Common.{List, length, ap, arith}
use Rattle.bddl_model.specs.declared.formula.Lit.{Lit}
use Rattle.qbf_form.proofs.Stored.{length_cut}
use Rattle.qbf_form.proofs.clauses.Clauses.clause.Goals as goal

pub clause_of-requires-clause-number : goal.clause_of-requires-clause-number
clause_of-requires-clause-number c =
    let same = length_cut 0 c.self.inside.ends.items c.self.inside.literals.items in
    let all = ap (λ (cs : List (List Lit)). length cs) c.self.view_is in
    rw c.deref.ensures.value (omega (arith, same, all, c.requires))
