use Rattle.std.proofs.Common.{sym, subst}
use Rattle.bddl_model.specs.Truth.{Formula}
use Rattle.bddl_model.specs.Forms.{FitsPrefix}
use Rattle.qbf_form.proofs.FittingClauses.{still_fit}
use Rattle.qbf_form.proofs.form.Form.add.Goals as goal

pub invariant_of-self : goal.invariant_of-self
invariant_of-self c =
    still_fit c.self.inside.prefix c.self.inside.clauses c.add.new.self c.args.literals.now c.add.result c.add.ensures.ok c.add.ensures.err
    c.self.invariant (subst (λ (f : Formula). FitsPrefix f.prefix c.args.literals.now) (sym c.self.view_is) c.requires)
