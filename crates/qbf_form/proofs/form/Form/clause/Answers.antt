use Rattle.std.proofs.Common.{◌<◌, List, length, sym, subst}
use Rattle.bddl_model.specs.declared.formula.Lit.{Lit}
use Rattle.bddl_model.specs.Truth.{Formula}
use Rattle.bddl_model.specs.Forms.{FitsPrefix}
use Rattle.qbf_form.proofs.FittingClauses.{clause_fits}
use Rattle.qbf_form.proofs.form.Form.clause.Goals as goal

pub returns-clause-fits : goal.returns-clause-fits
returns-clause-fits c =
    let few = subst (λ (f : Formula). c.args.number < length f.clauses) (sym c.self.view_is) c.requires in
    let fits = clause_fits c.self.inside.prefix c.self.inside.clauses c.args.number c.self.invariant few in
    subst (λ (f : Formula). FitsPrefix f.prefix c.clause.result.now) c.self.view_is (subst (λ (ls : List Lit). FitsPrefix c.self.inside.prefix ls) (sym c.clause.ensures) fits)
