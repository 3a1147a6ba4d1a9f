use Rattle.std.proofs.Common.{length, sym, ◌∙◌}
use Rattle.qbf_form.proofs.Stored.{clause_within, clause_at}
use Rattle.qbf_form.proofs.clauses.clause_of.Goals as goal

pub part-requires-clause-order : goal.part-requires-clause-order
part-requires-clause-order c = rw c.start_of.ensures ((clause_within (length c.args.literals.now) 0 c.args.ends.now c.args.number c.requires.ends c.requires.number).0)

pub part-requires-clause-within : goal.part-requires-clause-within
part-requires-clause-within c = (clause_within (length c.args.literals.now) 0 c.args.ends.now c.args.number c.requires.ends c.requires.number).1

pub returns : goal.returns
returns c = c.part.ensures ∙ (rw c.start_of.ensures (sym (clause_at 0 c.args.ends.now c.args.literals.now c.args.number c.requires.number)))
