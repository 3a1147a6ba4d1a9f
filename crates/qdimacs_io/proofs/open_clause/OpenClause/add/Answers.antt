use Rattle.std.proofs.Common.{◌+◌, ◌*◌, ◌<◌, ◌∙◌, ◌||◌, sym, ap, subst}
use Rattle.bddl_model.specs.Truth.{negation}
use Rattle.qdimacs_io.specs.States.{OpenLiterals, with_literal}
use Rattle.qdimacs_io.proofs.Tables.{is_marked, one_more, doubled_seen, added_seen}
use Rattle.qdimacs_io.proofs.open_clause.OpenClause.add.Goals as goal

pub returns-then-has-clause-literals : goal.returns-then-has-clause-literals
returns-then-has-clause-literals c =
    let small = subst (λ (o : OpenLiterals). 2 * c.args.literal.var.0 + 1 < o.room) (sym c.self.view_is) c.requires in
    let here = rw c.number_of-number.ensures at c.if-has.ensures in
    let there = rw (c.number_of.ensures, c.negation.ensures) at c.has.ensures in
    doubled_seen _ _ _ _ c.args.literal (sym (is_marked _ _ c.self.invariant c.args.literal small) ∙ sym here)
    (ap (λ b. c.self.inside.opposed || b) (there ∙ is_marked _ _ c.self.invariant (negation c.args.literal) small))
    ∙ ap (λ (o : OpenLiterals). with_literal o c.args.literal) c.self.view_is

pub invariant_of-self-2 : goal.invariant_of-self-2
invariant_of-self-2 c =
    let small = subst (λ (o : OpenLiterals). 2 * c.args.literal.var.0 + 1 < o.room) (sym c.self.view_is) c.requires in
    rw (c.in_ok-push.ensures.items, c.add.ensures, c.number_of-number.ensures) (one_more _ _ c.self.invariant c.args.literal small)

pub returns-clause-literals : goal.returns-clause-literals
returns-clause-literals c =
    let small = subst (λ (o : OpenLiterals). 2 * c.args.literal.var.0 + 1 < o.room) (sym c.self.view_is) c.requires in
    let here = rw c.number_of-number.ensures at c.has-2.ensures in
    let there = rw (c.number_of.ensures, c.negation.ensures) at c.has.ensures in
    rw c.add.ensures (added_seen _ _ _ _ _ c.args.literal _ (sym (is_marked _ _ c.self.invariant c.args.literal small) ∙ sym here ∙ c.if-has.false)
    (ap (λ b. c.self.inside.opposed || b) (there ∙ is_marked _ _ c.self.invariant (negation c.args.literal) small))
    c.in_ok-push.ensures.items)
    ∙ ap (λ (o : OpenLiterals). with_literal o c.args.literal) c.self.view_is
