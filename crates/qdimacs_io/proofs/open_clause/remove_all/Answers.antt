use Rattle.std.proofs.Common.{arith, ◌≡◌, ◌<◌, ℕ, subst, List, true, false, get_or, length}
use Rattle.std.proofs.lemmas.List.{drop_all}
use Rattle.bddl_model.specs.Forms.{has_number}
use Rattle.bddl_model.specs.declared.formula.Lit.{Lit}
use Rattle.qdimacs_io.specs.MarkSets.{literal_numbers}
use Rattle.qdimacs_io.proofs.Tables.{all_taken}
use Rattle.qdimacs_io.proofs.open_clause.remove_all.Goals as goal

pub returns : goal.returns
returns c =
    let none = drop_all c.loop-literal.literal-index c.args.literals.now (omega arith) in
    all_taken c.loop-literal.marks (length c.args.marks.now) c.loop-literal.invariant.len
    (subst (λ (ls : List Lit). (n : ℕ) → n < length c.args.marks.now → get_or c.loop-literal.marks n false ≡ true → has_number (literal_numbers ls) n ≡ true) none c.loop-literal.invariant.covers)
