use Rattle.std.proofs.Common.{List, ◌++◌, [], ◌∷◌, ap, ap₂, ◌∙◌}
use Rattle.bddl_model.specs.declared.formula.Lit.{Lit}
use Rattle.qbf_form.proofs.Stored.{ends_kept, cut_kept}
use Rattle.qbf_form.proofs.clauses.Clauses.add.Goals as goal

pub invariant_of-self-2 : goal.invariant_of-self-2
invariant_of-self-2 c =
    ends_kept c.self.inside.ends.items c.push_reserved.new.self.items c.self.inside.literals.items c.extend_from_slice.new.self.items c.args.literals.now
    c.self.invariant c.in_ok-extend_from_slice.ensures.items
    (c.push_reserved.ensures.items ∙ ap₂ (λ es e. es ++ e ∷ []) c.reserve.ensures.items (c.len.ensures ∙ c.extend_from_slice.new.self.ok.0))

pub returns-clause-ok : goal.returns-clause-ok
returns-clause-ok c =
    cut_kept c.self.inside.ends.items c.push_reserved.new.self.items c.self.inside.literals.items c.extend_from_slice.new.self.items c.args.literals.now
    c.self.invariant c.in_ok-extend_from_slice.ensures.items
    (c.push_reserved.ensures.items ∙ ap₂ (λ es e. es ++ e ∷ []) c.reserve.ensures.items (c.len.ensures ∙ c.extend_from_slice.new.self.ok.0))
    ∙ ap (λ (cs : List (List Lit)). cs ++ c.args.literals.now ∷ []) c.self.view_is
