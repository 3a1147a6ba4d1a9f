use Rattle.std.proofs.Common.{List, length, sym, ap, ◌∙◌}
use Rattle.bddl_model.specs.declared.formula.Lit.{Lit}
use Rattle.qbf_form.proofs.Stored.{length_cut}
use Rattle.qbf_form.proofs.clauses.Clauses.len.Goals as goal

pub returns : goal.returns
returns c = c.len.ensures ∙ c.self.inside.ends.ok.0 ∙ sym (length_cut 0 c.self.inside.ends.items c.self.inside.literals.items) ∙ ap (λ (cs : List (List Lit)). length cs) c.self.view_is
