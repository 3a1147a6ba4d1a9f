use Rattle.std.proofs.Common.{rules, sym}
use Rattle.bddl_model.specs.FormulaText.{literal_text}
use Rattle.io_edge.proofs.Added.{added_more, added_stops, added_last, adds_same}
use Rattle.qdimacs_io.proofs.Lines.{line_is, ended_next, ended_none}
use Rattle.qdimacs_io.proofs.clause.add_clause.Goals as goal

pub returns-in_err-add_literal-clause-text : goal.returns-in_err-add_literal-clause-text
returns-in_err-add_literal-clause-text g c =
    let next = ended_next literal_text c.args.literals.now c.loop-literal.literal-index _ c.loop-literal-test.true in
    adds_same _ _ (sym (line_is literal_text c.args.literals.now)) _ _ _ _ _ (added_stops _ _ _ _ next _ _ _ _ _ _ c.loop-literal.invariant.added _ c.from_residual.ensures.0 c.in_err-add_literal.ensures.text)

pub loop-literal-preserved : goal.loop-literal-preserved
loop-literal-preserved g c =
    let next = ended_next literal_text c.args.literals.now c.loop-literal.literal-index _ c.loop-literal-test.true in
    record {
      added = added_more _ _ _ _ next _ _ _ _ _ _ c.loop-literal.invariant.added c.in_ok-add_literal.ensures.text;
      counts = search rules;
    }

pub returns-clause-text : goal.returns-clause-text
returns-clause-text g c =
    let rest = ended_none literal_text c.args.literals.now c.loop-literal.literal-index c.loop-literal-test.false in
    adds_same _ _ (sym (line_is literal_text c.args.literals.now)) _ _ _ _ _ (added_last _ _ _ rest _ _ _ _ _ _ _ c.loop-literal.invariant.added c.add.ensures.text)
