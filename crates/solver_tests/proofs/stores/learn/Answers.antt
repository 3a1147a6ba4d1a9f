use Rattle.std.proofs.Common.{List, [], sym, subst}
use Rattle.std.proofs.lemmas.List.Elements.{All-get_or}
use Rattle.bddl_model.specs.declared.formula.Kind.TheVariants as kinds
use Rattle.bddl_model.specs.declared.formula.Quant.TheVariants as quants
use Rattle.bddl_model.specs.declared.formula.Lit.{Lit}
use Rattle.bddl_model.specs.Truth.{Formula}
use Rattle.bddl_model.specs.Fine.{IsFine, FineClauseOf, first_block}
use Rattle.solver_tests.proofs.stores.learn.Goals as goal

pub add_learned-requires-clause-fine : goal.add_learned-requires-clause-fine
add_learned-requires-clause-fine c =
    let f = c.args.form.now in
    subst (λ (g : Formula). IsFine kinds.Clause g c.clause.result.now) (sym c.requires.same)
    (subst (λ (ls : List Lit). IsFine kinds.Clause f ls) (sym c.clause.ensures.literals)
    (All-get_or (FineClauseOf (first_block quants.All f.prefix) f) f.clauses c.args.number [] c.requires.within (c.original_clause_is_fine.ensures.of_form (first_block quants.All f.prefix) f c.keeps_its_form.ensures)))
